-- The fewest digits that hold a number are its digits with no zero in front, 64 bits need no more than 20, and what is printed reads back.
use mathlib.Core.Path.{◌≡◌, refl, sym, ap, subst, ◌∙◌}
use mathlib.Core.List.{List, [], ◌∷◌, ◌++◌}
use mathlib.Core.Logic.{⊎_elim}
use Prim.Native.Nat.{ℕ, zero, suc, ◌+◌, ◌-◌, ◌*◌, ◌/◌, ◌%◌, ◌^◌, ◌≤◌, ◌<◌}
use native.Mathlib.Nat.{pow-le-pow_right, pow-suc, zero-lt-suc}
use native.Mathlib.Omega.{arith}
use lib.ListN.{length, length-append}
use lib.Dec.{ltb}
use borrow.Author.Tests.{lt-ltb, le-ltb}
use Rattle.io.specs.Digits.{IsDigitCount, last_digits, hex_digit_ascii}
use Rattle.rules.proofs.Tests.{lt_or, by_test}
use Rattle.text.specs.Lines.{within, decimal}

pub twenty_digits : (n k : ℕ) → n < 18446744073709551616 → IsDigitCount 10 1 n k → k ≤ 20
twenty_digits n k h f =
    ⊎_elim
    (λ l.
    let p : 100000000000000000000 ≤ 10 ^ (k - 1) = pow-le-pow_right {n = 10} (zero-lt-suc 9) {i = 20} {j = k - 1} (omega arith) in
    absurd (omega (arith, f.2 (omega arith))))
    (λ g. g) (lt_or 20 k)

glyph_ten : (d : ℕ) → d < 10 → hex_digit_ascii d ≡ 48 + d
glyph_ten d h = simp (lt-ltb d 10 h)

less_one : (k : ℕ) → suc k - 1 ≡ k
less_one k = omega arith

digits_within : (j k n : ℕ) → k ≤ j → IsDigitCount 10 1 n k → last_digits 10 k n ≡ within j n
unfolding within
digits_within j zero n h f = absurd (omega arith)
digits_within zero (suc k) n h f = absurd (omega arith)
digits_within (suc j) (suc zero) n h f =
    let l : n < 10 = f.1 in
    let e : n % 10 ≡ n = omega arith in
    rw (lt-ltb n 10 l) (rw e (ap (λ (x : ℕ). x ∷ []) (glyph_ten n l)))
digits_within (suc j) (suc (suc k)) n h f =
    let p : 10 ^ suc k ≡ 10 ^ k * 10 = pow-suc 10 k in
    let q : 10 ^ suc (suc k) ≡ 10 ^ suc k * 10 = pow-suc 10 (suc k) in
    let o : 1 ≤ 10 ^ k = pow-le-pow_right {n = 10} (zero-lt-suc 9) {i = 0} {j = k} (omega arith) in
    let w : suc (suc k) - 1 ≡ suc k = omega arith in
    let u : 10 ^ suc k ≤ n = subst (λ (i : ℕ). 10 ^ i ≤ n) w (f.2 (omega arith)) in
    let l : 10 ≤ n = omega arith in
    let m : n % 10 < 10 = omega arith in
    let g : IsDigitCount 10 1 (n / 10) (suc k) = (omega arith, omega (arith, f.1), λ v. subst (λ (i : ℕ). 10 ^ i ≤ n / 10) (sym (less_one k)) (omega arith)) in
    rw (le-ltb n 10 l) (rw (digits_within j (suc k) (n / 10) (omega arith) g, glyph_ten (n % 10) m))

pub digits_decimal : (k n : ℕ) → n < 18446744073709551616 → IsDigitCount 10 1 n k → last_digits 10 k n ≡ decimal n
unfolding decimal
digits_decimal k n h f = digits_within 20 k n (twenty_digits n k h f) f

within-length : (k n : ℕ) → length (within k n) ≤ k
unfolding within
within-length zero n = omega arith
within-length (suc k) n =
    by_test (ltb n 10) (λ e. rw e (omega arith))
    (λ e. rw e (omega (arith, length-append (within k (n / 10)) ((48 + n % 10) ∷ []), within-length k (n / 10))))

pub decimal-length : (n : ℕ) → length (decimal n) ≤ 20
unfolding decimal
decimal-length n = within-length 20 n

-- what is printed reads back: the digits of a 64-bit number, in base ten, are the number
abbrev read : ℕ → List ℕ → ℕ
read v [] = v
read v (d ∷ ds) = read (v * 10 + (d - 48)) ds

read_last : (v : ℕ) (ds : List ℕ) (d : ℕ) → read v (ds ++ (d ∷ [])) ≡ read v ds * 10 + (d - 48)
read_last v [] d = refl
read_last v (x ∷ ds) d = read_last (v * 10 + (x - 48)) ds d

within-reads : (k n : ℕ) → n < 10 ^ k → read 0 (within k n) ≡ n
unfolding within
within-reads zero n h = omega arith
within-reads (suc k) n h =
    let p : 10 ^ suc k ≡ 10 ^ k * 10 = pow-suc 10 k in
    by_test (ltb n 10) (λ e. rw e (omega arith))
    (λ e. rw e (read_last 0 (within k (n / 10)) (48 + n % 10) ∙ (let m = within-reads k (n / 10) (omega arith) in omega arith)))

pub decimal-reads : (n : ℕ) → n < 18446744073709551616 → read 0 (decimal n) ≡ n
unfolding decimal
decimal-reads n h = within-reads 20 n (omega arith)
