-- Lists as code lends and stores them: `&s[k..]` is the first `length s - k` of what stands from k on, and words stored one behind the
-- other are `sets`.
use mathlib.Core.Path.{◌≡◌, ap}
use mathlib.Core.List.{List, [], ◌∷◌, ◌++◌}
use Prim.Native.Nat.{ℕ, suc, ◌+◌, ◌-◌, ◌≤◌}
use native.Mathlib.Nat.{add-zero}
use native.Mathlib.Omega.{arith}
use lib.ListN.{length, set, drop, take, length-drop}
use borrow.Rule.Slice.PartMut.{put_mid}
use Rattle.std.proofs.lemmas.List.{append_assoc, drop-drop}
use lib.Seq.{sets, sets-eq, take_all}

module _ {A : Type 0} where
  pub part_from : (s : List A) (k : ℕ) → take (length s - k) (drop k s) ≡ drop k s
  part_from s k = take_all (length s - k) (drop k s) (omega (arith, length-drop k s))

  -- words that are stored, and then more behind them
  pub sets_then : (ws vs l : List A) (i : ℕ) → sets (sets l i ws) (i + length ws) vs ≡ sets l i (ws ++ vs)
  sets_then [] vs l i = rw (add-zero i)
  sets_then (w ∷ ws) vs l i = let e : i + suc (length ws) ≡ suc i + length ws = omega arith in rw e (sets_then ws vs (set l i w) (suc i))

  -- a part of a list that is copied over
  pub copied_over : (l vs ys : List A) (at k : ℕ) → at + length vs ≤ length l → k ≡ length vs → ys ≡ vs → put_mid at k l ys ≡ sets l at vs
  copied_over l vs ys at k h e q =
      rw (q, e, sets-eq vs l at h) (simp append_assoc (ap (λ (t : List A). take at l ++ (vs ++ t)) (drop-drop (length vs) at l)))
