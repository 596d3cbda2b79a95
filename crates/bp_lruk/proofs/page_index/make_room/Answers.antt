use Rattle.std.proofs.Common.{rules, ◌≡◌, filter, length, ◌∙◌, ap, sym, subst, arith}
use Rattle.std.specs.Option.{is_some}
use Rattle.std.proofs.lemmas.List.Elements.{filter_from_retain}
use Rattle.bp_lruk.specs.Index.{has_lower_page, IsByPage, entered_in}
use Rattle.bp_references.proofs.OrderLaws.{pairs_filtered}
use Rattle.bp_lruk.proofs.PageLaws.{entered_filter, length_filter}
use Rattle.bp_lruk.proofs.page_index.make_room.Goals as goal

-- the entries that are left are those that tell what their page is entered with
kept : (c : goal.After-retain) → c.retain.new.self.items ≡ filter (λ e. is_some e.entered) c.args.entries.now.items
kept c = filter_from_retain _ (λ e. is_some e.entered) (λ p x b q called. search rules) _ _ _ c.retain.ensures.filtered

pub returns-then-len-room-clause-in_order : goal.returns-then-len-room-clause-in_order
returns-then-len-room-clause-in_order c = subst IsByPage (sym (kept c)) (pairs_filtered has_lower_page (λ e. is_some e.entered) c.args.entries.now.items c.requires.in_order)

pub returns-then-len-room-clause-same : goal.returns-then-len-room-clause-same
returns-then-len-room-clause-same c = ap entered_in (kept c) ∙ entered_filter c.args.entries.now.items

pub returns-then-len-room-clause-has_room : goal.returns-then-len-room-clause-has_room
returns-then-len-room-clause-has_room c = omega (arith, c.retain.new.self.ok, ap length (kept c), length_filter c.args.entries.now.items)
