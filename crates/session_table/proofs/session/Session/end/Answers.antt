use Rattle.session_table.proofs.{arith, HasLost, length-map, lost_next, lost_none, name_of, entry_names, pointer_in, row_within}
use Rattle.session_table.proofs.{still_shows, store_at, subst, take_all, ◌≡◌}
use Rattle.session_table.proofs.session.Session.end.Goals as goal

pub ends-init : goal.ends-init
ends-init g c = (omega arith, lost_none _ c.requires.simple)

pub end_at-requires : goal.end_at-requires
end_at-requires g c = record {
  simple = c.ends.invariant.1.simple;
  live = λ k e at. still_shows c.args.self.entries.entries c.requires.once c.ends.next (k, e) at c.requires.live
      c.ends.invariant.1 (store_at (λ n. n ≡ _) c.args.self.entries.entries c.ends.next (k, e) c.requires.live.own at);
}

pub ends-preserved : goal.ends-preserved
ends-preserved g c =
    let at = row_within c.args.self.entries.entries c.ends.next (grind arith) in
    let lost = lost_next c.args.self.entries.entries c.requires.once c.ends.next at.0 at.1 c.requires.live
    c.ends.invariant.1 (c.end_at.ensures at.0.0 at.0.1 at.1) in (grind arith, lost)

pub returns : goal.returns
returns g c =
    let names = entry_names c.args.self.entries.entries in
    let long = length-map c.args.self.entries.entries (λ (x : _ × _). name_of (pointer_in x.1)) in
    subst (λ ns. HasLost (g.S.AnyStorage.state c.args.store.now) ns (g.S.AnyStorage.state c.ends.store)) (take_all c.ends.next names (grind (arith, long))) c.ends.invariant.1
