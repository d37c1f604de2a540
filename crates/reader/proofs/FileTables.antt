-- The statement of a file's own tables admits one answer only.
use mathlib.Core.Path.{◌≡◌, ap, sym, ◌∙◌}
use mathlib.Core.List.{List}
use Prim.Native.Nat.{ℕ}
use native.Mathlib.Omega.{arith}
use Rattle.std.specs.Prelude.{Result, Ok, Err}
use Rattle.rules.specs.Answers.{Told, number_of, place_of, reading_says}
use Rattle.rules.specs.File.{Reading}
use Rattle.rules.specs.declared.Refusal.{Refusal}
use Rattle.rules.proofs.Answers.{refusal_one_of}
use Rattle.reader.specs.Tables.{Words, TablesAre}

pub tables_one : (file : List ℕ) (r q : Result Words Refusal) → TablesAre file r → TablesAre file q → r ≡ q
tables_one file (Ok w) (Ok v) a b = λ i. Ok (record {
  tasks = (a.task_table ∙ sym b.task_table) i;
  connections = (a.row_table ∙ sym b.row_table) i;
})
tables_one file (Ok w) (Err g) a b =
    let z : ◌≡◌ {A = ℕ} 5 0 = ap (λ (t : Told). t.kind) (ap reading_says (sym a.read ∙ b)) in
    absurd (omega arith)
tables_one file (Err f) (Ok v) a b =
    let z : ◌≡◌ {A = ℕ} 5 0 = ap (λ (t : Told). t.kind) (ap reading_says (sym b.read ∙ a)) in
    absurd (omega arith)
tables_one file (Err f) (Err g) a b =
    let e : reading_says (Reading.Refused (number_of f) (place_of f)) ≡ reading_says (Reading.Refused (number_of g) (place_of g)) = ap reading_says (sym a ∙ b) in
    ap Err (refusal_one_of f g (ap (λ (t : Told). t.number) e) (ap (λ (t : Told). t.value) e))
