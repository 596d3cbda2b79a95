-- One section where the page is in a frame, and the longer way after it where it is in none.
use Rattle.std.proofs.Common.{◌∙◌, sym, ap, subst, Bool, Ok, Err, inr}
use Rattle.std.proofs.lemmas.Result.{err_from_is_err_and}
use Rattle.bp_page.specs.declared.refusals.Refusal.{Refusal}
use Rattle.bp_shared.specs.Sessions.{LookSaid, PageReadSaid}
use Rattle.bp_shared.specs.Telling.{IsListOf}
use Rattle.bp_shared.proofs.Acting.{acts_more, acts_ok}
use Rattle.bp_shared.proofs.Looking.{look_said, look_work, refusal_said}
use Rattle.bp_shared.proofs.Writing.{work_since}
use Rattle.bp_shared.proofs.pool.SharedPool.read_page_into.Goals as goal

pub returns-in_err-read_if_resident-clause-outcome :
    goal.returns-in_err-read_if_resident-clause-outcome
returns-in_err-read_if_resident-clause-outcome g c =
    let is = err_from_is_err_and c.from_residual.result c.from_residual.ensures.1 in
    let old = c.args.session.now in
    let look = c.read_if_resident.new in
    let said = subst (λ (why : Refusal). LookSaid old.client c.args.page c.args.offset c.args.into.now (Err why) look.into old.said look.session.said) (sym is.2) c.in_err-read_if_resident.ensures.outcome in
    subst (λ r. PageReadSaid old.client c.args.page c.args.offset c.args.into.now r look.into old.said look.session.said) (sym is.1) (refusal_said old.client c.args.page c.args.offset c.args.into.now is.0 look.into old.said look.session.said said)

pub returns-then-branch-clause-outcome : goal.returns-then-branch-clause-outcome
returns-then-branch-clause-outcome g c =
    let old = c.args.session.now in
    let look = c.read_if_resident.new in
    look_said old.client c.args.page c.args.offset c.args.into.now look.into old.said look.session.said
    (subst (λ (b : Bool). LookSaid old.client c.args.page c.args.offset c.args.into.now (Ok b) look.into old.said look.session.said) c.if-branch.true c.in_ok-read_if_resident.ensures.outcome)

pub returns-then-branch-clause-work : goal.returns-then-branch-clause-work
returns-then-branch-clause-work g c =
    let old = c.args.session.now in
    let look = c.read_if_resident.new in
    look_work _ _ old.client c.args.page c.args.offset c.args.into.now look.into old.said look.session.said _
    (subst (λ (b : Bool). LookSaid old.client c.args.page c.args.offset c.args.into.now (Ok b) look.into old.said look.session.said) c.if-branch.true c.in_ok-read_if_resident.ensures.outcome)

pub returns-clause-work : goal.returns-clause-work
returns-clause-work g c =
    let old = c.args.session.now in
    let look = c.read_if_resident.new in
    let looked = c.in_ok-read_if_resident.ensures.keeps in
    let away = subst (λ (b : Bool). LookSaid old.client c.args.page c.args.offset c.args.into.now (Ok b) look.into old.said look.session.said) c.if-branch.false c.in_ok-read_if_resident.ensures.outcome in
    work_since _ _ old look.session c.read_by_pass.new.session _ _ _ _ looked.client looked.acts.goes_on (rw away.0 at c.read_by_pass.ensures.work)

pub returns-clause-read : goal.returns-clause-read
returns-clause-read g c =
    let old = c.args.session.now in
    let mid = c.read_if_resident.new.session in
    let look = c.in_ok-read_if_resident.ensures in
    let looked = look.keeps in
    let done = c.read_by_pass.ensures in
    record {
      keeps = record {
        client = done.keeps.client ∙ looked.client;
        before = done.keeps.before ∙ looked.before;
        acts = acts_more _ _ c.read_by_pass.result old mid c.read_by_pass.new.session (inr looked.acts) done.keeps.acts;
        roomy = λ was. done.keeps.roomy (looked.roomy was);
      };
      at_once = λ ok.
          let acts = acts_ok _ _ c.read_by_pass.result mid c.read_by_pass.new.session done.keeps.acts ok in
          let said = subst (λ (b : Bool). LookSaid old.client c.args.page c.args.offset c.args.into.now (Ok b) c.read_if_resident.new.into old.said mid.said) c.if-branch.false look.outcome in
          let listed = subst (λ n. IsListOf g.N.PartNames.past mid.seen n mid.said) looked.client looked.acts.list_is in
          inr (record { looked = mid.seen; list_is = subst (IsListOf g.N.PartNames.past mid.seen old.client) said.0 listed; before = looked.acts.goes_on; after = acts.goes_on; away = look.away (ap Ok c.if-branch.false) });
      room = done.room;
      memory = λ silent had. done.memory silent (look.roomy (λ no. cc));
      roomy = done.roomy;
      known = done.known;
      held = done.held;
    }
