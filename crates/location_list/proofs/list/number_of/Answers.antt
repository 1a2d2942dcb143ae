use Rattle.std.proofs.Common.{ap, is_some, refl, sym, ◌∙◌}
use Rattle.location_list.proofs.Keys.{among, found, inserted, kept_at, stays}
use Rattle.location_list.proofs.list.number_of.Goals as goal

pub returns-in-Some-clause-found : goal.returns-in-Some-clause-found
returns-in-Some-clause-found g c = rw (← c.of-key.ensures) (found _ _ _ (sym c.in-Some.ensures.index))

pub returns-in-Some-clause-added : goal.returns-in-Some-clause-added
returns-in-Some-clause-added g c = stays _ _ _ _ refl (returns-in-Some-clause-found g c)

pub returns-then-len-clause-absent : goal.returns-then-len-clause-absent
returns-then-len-clause-absent g c = rw (← c.of-key.ensures)
    (among c.args.kept.now.keys c.of-key.result ∙ sym c.get_index_of.ensures.found ∙ ap is_some c.in_default.is)

pub returns-in-Ok-clause-added : goal.returns-in-Ok-clause-added
returns-in-Ok-clause-added g c =
    rw (c.in-Ok.ensures.keys, ← c.of-key.ensures) (inserted c.args.kept.now.keys c.of-key.result)

pub returns-in-Ok-clause-found : goal.returns-in-Ok-clause-found
returns-in-Ok-clause-found g c =
    let s = c.in-Ok.ensures.stored in
    rw (← c.of-key.ensures) (kept_at c.insert_full.new.self.keys c.in-Ok.number c.of-key.result s.0 s.1 s.2)

pub returns-in-Err-clause-absent : goal.returns-in-Err-clause-absent
returns-in-Err-clause-absent g c = rw (← c.of-key.ensures)
    (among c.args.kept.now.keys c.of-key.result ∙ c.in-Err.ensures.absent)
