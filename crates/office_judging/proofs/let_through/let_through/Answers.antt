use Rattle.std.proofs.Common.{refl, ◌+◌, Err, None, IsTrue, drop-cons, add-one, subst, sym, ap}
use Rattle.std.specs.Prelude.{⊤}
use Rattle.std.specs.List.{list_all}
use Rattle.std.proofs.lemmas.List.{drop_all}
use Rattle.sqlite.specs.Held.{state}
use Rattle.review_policy.specs.declared.denial.Rule.TheVariants.{CallerUnknown}
use Rattle.office_judging.specs.declared.refusal.Refusal.TheVariants as refusals
use Rattle.office_judging.specs.Memo.{is_askable}
use Rattle.office_judging.specs.Refusing.{refuses}
use Rattle.office_judging.specs.Rows.{JudgesRow, first_of}
use Rattle.office_judging.proofs.Judging.{left, read_both, second_fails, read_fails, refused_after, found_after}
use Rattle.office_judging.proofs.Unread.{found_unread}
use Rattle.office_judging.proofs.Rows.{IsTold, IsUnderWay, all_passed, askable, denied_by, goes_by, is_named, let_through_by, next_askable}
use Rattle.office_judging.proofs.let_through.let_through.Goals as goal

pub loop-rule-init : goal.loop-rule-init
loop-rule-init g c =
    let caller = c.args.caller.now in
    let a = c.args.ask.now in
    record {
      number = refl;
      way = record {
        askable = subst (λ rules. IsTrue (list_all (is_askable a) rules)) (sym c.rules_of-rules.ensures.row) (askable a);
        rest_says = λ m part. ap (first_of (refuses caller a m) 2) (sym c.rules_of-rules.ensures.row);
      };
      read = found_unread (state g.S.Store c.args.conn.now) (tt {0}) _ c.requires.idle c.requires.is_open (g.met.S.Store.settled c.args.conn.now.store)
          (λ t h lawful same. record { summary = tt; revision = tt; is_author = tt; issued = tt; brief = tt; no_profile = tt; held = tt });
    }

pub returns-in_err-look-clause-judged : goal.returns-in_err-look-clause-judged
returns-in_err-look-clause-judged g c =
    left _ _ _ _ (refusals.Fault c.in_err-look.field-0.0) c.from_residual.ensures.1
    (read_fails _ (state g.S.Store c.args.conn.now) (state g.S.Store c.look.new.conn) (λ t (done : ⊤). IsTold c.args.caller.now c.args.ask.now c.loop-rule.looked t) c.in_err-look.field-0.0
    (second_fails (state g.S.Store c.args.conn.now) (state g.S.Store c.loop-rule.conn) (state g.S.Store c.look.new.conn) _ _ (tt {0}) c.loop-rule.invariant.read _ c.in_err-look.field-0.0 c.in_err-look.ensures.read))

pub returns-then-refuses-clause-judged : goal.returns-then-refuses-clause-judged
returns-then-refuses-clause-judged g c =
    let caller = c.args.caller.now in
    let a = c.args.ask.now in
    let way = subst (IsUnderWay caller a c.loop-rule.looked c.loop-rule.number) (drop-cons c.rules_of-rules.result.now c.loop-rule.rule-index CallerUnknown c.loop-rule-test.true) c.loop-rule.invariant.way in
    subst (λ e. JudgesRow (state g.S.Store c.args.conn.now) (state g.S.Store c.look.new.conn) (Err e) caller a) (sym c.from.ensures)
    (refused_after _ (state g.S.Store c.args.conn.now) (state g.S.Store c.look.new.conn) (λ t (done : ⊤). IsTold caller a c.look.new.self t) (tt {0})
    (read_both (state g.S.Store c.args.conn.now) (state g.S.Store c.loop-rule.conn) (state g.S.Store c.look.new.conn) _ _ (tt {0}) c.loop-rule.invariant.read _ (tt {0}) (tt {0})
    (λ t told learns h lawful same. learns h lawful same (told h lawful same)) c.in_ok-look.ensures.read)
    _ None (λ h lawful told. denied_by caller a c.requires.row h c.look.new.self _ (told h lawful refl)
    (is_named caller a c.loop-rule.looked c.look.new.self c.loop-rule.number _ _ way c.in_ok-look.ensures.kept c.in_ok-look.ensures.there _ (add-one c.loop-rule.number) c.if-refuses.ensures)))

pub loop-rule-preserved : goal.loop-rule-preserved
loop-rule-preserved g c =
    let caller = c.args.caller.now in
    let a = c.args.ask.now in
    let way = subst (IsUnderWay caller a c.loop-rule.looked c.loop-rule.number) (drop-cons c.rules_of-rules.result.now c.loop-rule.rule-index CallerUnknown c.loop-rule-test.true) c.loop-rule.invariant.way in
    record {
      number = ap (λ k. k + 1) c.loop-rule.invariant.number;
      way = rw (add-one c.loop-rule.number) (rw (add-one c.loop-rule.rule-index)
          (goes_by caller a c.loop-rule.looked c.look.new.self c.loop-rule.number _ _ way c.in_ok-look.ensures.kept c.in_ok-look.ensures.there c.if-refuses.ensures));
      read = read_both (state g.S.Store c.args.conn.now) (state g.S.Store c.loop-rule.conn) (state g.S.Store c.look.new.conn) _ _ (tt {0}) c.loop-rule.invariant.read _ (tt {0}) (tt {0})
          (λ t told learns h lawful same. learns h lawful same (told h lawful same)) c.in_ok-look.ensures.read;
    }

pub returns-clause-judged : goal.returns-clause-judged
returns-clause-judged g c =
    let caller = c.args.caller.now in
    let a = c.args.ask.now in
    let way = subst (IsUnderWay caller a c.loop-rule.looked c.loop-rule.number) (drop_all c.loop-rule.rule-index c.rules_of-rules.result.now c.loop-rule-test.false) c.loop-rule.invariant.way in
    found_after _ (state g.S.Store c.args.conn.now) (state g.S.Store c.loop-rule.conn) (λ t (done : ⊤). IsTold caller a c.loop-rule.looked t) (tt {0}) c.loop-rule.invariant.read c.loop-rule.looked
    (λ h lawful told. let_through_by caller a c.requires.row h c.loop-rule.looked c.loop-rule.number (told h lawful refl) way)

pub returns-clause-passed : goal.returns-clause-passed
returns-clause-passed g c =
    let caller = c.args.caller.now in
    let a = c.args.ask.now in
    all_passed caller a c.loop-rule.looked c.loop-rule.number
    (subst (IsUnderWay caller a c.loop-rule.looked c.loop-rule.number) (drop_all c.loop-rule.rule-index c.rules_of-rules.result.now c.loop-rule-test.false) c.loop-rule.invariant.way)

pub look-requires-clause-askable : goal.look-requires-clause-askable
look-requires-clause-askable g c =
    next_askable c.args.caller.now c.args.ask.now c.loop-rule.looked c.loop-rule.number _ _
    (subst (IsUnderWay c.args.caller.now c.args.ask.now c.loop-rule.looked c.loop-rule.number) (drop-cons c.rules_of-rules.result.now c.loop-rule.rule-index CallerUnknown c.loop-rule-test.true) c.loop-rule.invariant.way)
