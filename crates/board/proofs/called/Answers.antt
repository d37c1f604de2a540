-- The words encode no state, the call is refused, or what it leaves stands around the tables, which stand.
use Rattle.std.proofs.Common.{◌<◌, get_or, ap, sym, ◌∙◌, rules}
use Rattle.std.specs.Fn.{FnOnceReturnsAtMut}
use Rattle.rules.specs.Runs.{refused}
use Rattle.rules.proofs.Tests.{cond_true, cond_false}
use Rattle.board.specs.Widths.{wholes}
use Rattle.board.proofs.CallLaws.{called, not_refused, storable}
use Rattle.board.proofs.called.Goals as goal

pub code-told-requires : goal.code-told-requires
code-told-requires g c =
    let said : FnOnceReturnsAtMut g.F.FnOnce c.args.call c.in-Some.state c.call-answer.result c.call-answer.new.arg2 = search rules in
    (c.requires.keeps _ _ _ said).narrow

pub returns-in-Refused : goal.returns-in-Refused
returns-in-Refused g c =
    let said : FnOnceReturnsAtMut g.F.FnOnce c.args.call c.in-Some.state c.call-answer.result c.call-answer.new.arg2 = search rules in
    called _ _ _ _ _ _ _ c.in-Some.ensures said c.code-told.ensures (sym (cond_true _ _ _ (ap refused c.in-Refused.is)))

pub store-requires : goal.store-requires
store-requires g c =
    let said : FnOnceReturnsAtMut g.F.FnOnce c.args.call c.in-Some.state c.call-answer.result c.call-answer.new.arg2 = search rules in
    let count : get_or c.args.words.now 0 0 < wholes = search rules in
    let rows : get_or c.args.words.now 1 0 < wholes = search rules in
    storable _ _ _ _ count rows c.in-Some.ensures (c.requires.keeps _ _ _ said)

pub returns : goal.returns
returns g c =
    let said : FnOnceReturnsAtMut g.F.FnOnce c.args.call c.in-Some.state c.call-answer.result c.call-answer.new.arg2 = search rules in
    called _ _ _ _ _ _ _ c.in-Some.ensures said c.code-told.ensures
    (c.store.ensures ∙ sym (cond_false _ _ _ (not_refused _ c.in_default-answer.not-Refused)))
