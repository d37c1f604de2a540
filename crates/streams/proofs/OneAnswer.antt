-- Of a reader whose bytes are known, how many bytes were given settles which they are, and what the reader has left.
use Rattle.std.proofs.Common.{◌≡◌, ℕ, List, Option, None, Some, length, take, drop, refl, sym, ap, ◌∙◌, take_at, drop_at}
use Rattle.std.specs.Io.KnownBytes.{Consumes}

pub given_one : (known : List ℕ) (left : Option (List ℕ)) (given : List ℕ) → Consumes (Some known) left given
    → (given ≡ take (length given) known) × (left ≡ Some (drop (length given) known))
given_one known None given h = absurd h
given_one known (Some rest) given h = (
  sym (ap (take (length given)) h ∙ take_at given rest (length given) refl),
  ap Some (sym (ap (drop (length given)) h ∙ drop_at given rest (length given) refl)),
)
