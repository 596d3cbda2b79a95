use Rattle.std.proofs.Common.{sym, ◌∙◌}
use Rattle.bp_check.proofs.Replying.{may-by-answer}
use Rattle.bp_check.proofs.judge.Judge.may_reply.Goals as goal

pub returns : goal.returns
returns c = may-by-answer c.args.self.now.parameters c.args.self.now.past c.args.call.now c.args.reply.now c.is_reply.result (sym c.tells_wrong_page.ensures ∙ c.if-tells_wrong_page.false) c.is_reply.ensures
