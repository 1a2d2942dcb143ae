-- The first slot is taken, and its link leads to the others.
use Rattle.store_parts.proofs.{arith, slot_chain, chain_read, contains-insert_at, eq-eqb, first_within, members_take}
use Rattle.store_parts.proofs.{pool_take, refl, ◌-◌, ◌<◌, ◌∷◌, ◌≡◌}
use Rattle.store_parts.proofs.free_list.FreeList.take.Goals as goal
use Rattle.store_parts.proofs.free_list.FreeList.take.Goals.{else-self-gt1, Joined-self-gt1, then-self-gt1}

pub index-requires : goal.index-requires
index-requires c =
    let some : 0 < c.self.inside.count = omega (arith, c.if-self-eq0.false) in
    let within = first_within _ _ c.self.inside.count some c.self.invariant.0 in
    omega (arith, c.self.inside.links.ok.0, within)

begins : (c : Joined-self-gt1)
    → (slot_chain c.self.inside.links.items c.self.inside.first c.self.inside.count ≡ c.self.inside.first
    ∷ slot_chain c.if-self-gt1.self-inside.links.items c.if-self-gt1.self-inside.first (c.if-self-gt1.self-inside.count - 1))
    × (c.if-self-gt1.self-inside.links ≡ c.self.inside.links)
begins c =
    let some : 0 < c.self.inside.count = omega (arith, c.if-self-eq0.false) in
    elim c.if-self-gt1.branch [
      | then-self-gt1 w ↦ rw w.self-inside-is
          (chain_read _ _ _ _ some c.self.invariant.0 (λ more. w.index.ensures), refl)
      | else-self-gt1 w ↦ rw w.self-inside-is (
        chain_read _ _ _ c.self.inside.first some
            c.self.invariant.0 (λ more. absurd (omega (arith, more, w.if-self-gt1.false))),
        refl,
      )
    ]

pub invariant_of-self : goal.invariant_of-self
invariant_of-self c =
    let b = begins (goal.at.invariant_of-self c).Joined-self-gt1 in
    rw b.1 (pool_take (rw (b.0, b.1) at c.self.invariant.0), c.self.invariant.1)

pub returns : goal.returns
returns c =
    let b = begins (goal.at.returns c).Joined-self-gt1 in
    rw (← c.self.view_is, b.0) (record {
      first = refl;
      rest = refl;
      rooms = rw b.1 refl;
      member = rw (contains-insert_at, eq-eqb c.self.inside.first c.self.inside.first refl);
      taken = members_take (rw b.0 at c.self.invariant.0);
    })
