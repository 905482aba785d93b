use Rattle.std.proofs.Common.{◌≡◌, ◌+◌, ◌<◌, ◌∷◌, [], ℕ, List, Option, length, get_or, slice_get, Some, ap, sym, subst, ◌∙◌, arith}
use Rattle.std.proofs.lemmas.Grind.{common_steps}
use Rattle.std.proofs.lemmas.Option.{slice_get-get_or}
use Rattle.names.specs.Contents.{content_digest}
use Rattle.protocol.specs.Names.{Digest}
use Rattle.protocol.specs.Machine.{News, commit}
use Rattle.events.specs.declared.ask.KeptAsk.{KeptAsk}
use Rattle.events.specs.declared.ask.KeptAsk.TheVariants.{Finished}
use Rattle.protocol.specs.Nodes.{Left, news_of, stored}
use Rattle.nodeasks.specs.declared.ask_row.AskRow.{AskRow}
use Rattle.nodeasks.specs.Asks.{ends_with}
use Rattle.nodecontents.specs.Stored.{store_in}
use Rattle.nodecore.specs.Shown.{shown, place}
use Rattle.nodeasks.specs.Tickets.{AreIndexed}
use Rattle.nodecore.proofs.KeptLemmas.{any_row}
use Rattle.nodecore.proofs.NodeLemmas.{left_work, set_at}
use Rattle.nodeasks.proofs.RowLemmas.{kept_at}
use Rattle.nodeasks.proofs.TicketLemmas.{indexed_changed, ends_less}
use Rattle.nodecore.proofs.node_core.NodeCore.leave.Goals as goal

pub returns-clause-work : goal.returns-clause-work
returns-clause-work c = λ at h get was ticket.
    let all = c.args.self.now.asks.all.asks in
    let some : 0 < length c.args.lefts.items = grind (arith, common_steps) in
    let news : c.in_ok-news.news ≡ news_of content_digest c.args.lefts.items =
    c.in_ok-news.ensures ∙ ap (λ (ls : List Left). news_of content_digest ls) c.as_slice.ensures.value in
    let next : Finished h.wants h.grant c.in_ok-news.news ≡ ends_with c.in_ok-news.news at.kept = sym (ap (ends_with c.in_ok-news.news) was) in
    let contents : stored content_digest c.args.lefts.items (store_in c.args.self.now.contents.by_digest) ≡ store_in c.store_all.new.self.by_digest =
    sym (c.store_all.ensures ∙ ap (λ (s : Digest → Option (List ℕ)). stored content_digest c.args.lefts.items s) c.reserve.ensures.same) in
    let sends : commit c.args.self.now.node c.args.self.now.life c.args.ticket c.in_ok-news.news ∷ [] ≡ c.in_ok-sends.sends =
    sym (c.in_ok-sends.ensures ∙ ap (λ (n : List News). commit c.args.self.now.node c.args.self.now.life c.args.ticket n ∷ []) c.in_ok-copy.ensures) in
    left_work (place c.args.self.now) c.args.ticket (at.place + 1) h c.args.lefts.items c.in_ok-news.news (shown c.args.self.now) _ _ _ some ticket news
    (set_at all at.place (ends_with c.in_ok-news.news at.kept) (Finished h.wants h.grant c.in_ok-news.news) next ∙ sym (c.change.ensures.asks at get)) contents sends

pub invariant_of-self-2 : goal.invariant_of-self-2
invariant_of-self-2 c =
    let all = c.args.self.now.asks.all.asks in
    let rows = c.args.self.now.asks.rows.items in
    let at : AskRow = get_or rows c.args.row any_row in
    let inside : c.args.row < length rows = omega (arith, c.requires) in
    let get : slice_get rows c.args.row ≡ Some at = slice_get-get_or rows c.args.row any_row inside in
    record {
      indexed = subst (λ (l : List KeptAsk). AreIndexed c.args.self.now.by_ticket l) (sym (c.change.ensures.asks at get))
          (indexed_changed (ends_with c.in_ok-news.news) c.args.self.now.by_ticket all at.place at.kept (ends_less c.in_ok-news.news) c.args.self.now.indexed (kept_at all rows c.args.row at c.args.self.now.asks.tied get));
    }
