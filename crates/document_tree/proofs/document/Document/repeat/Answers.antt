use Rattle.document_tree.proofs.{ap, arith, counted_fits, counted_gain, get_there, given_apart}
use Rattle.document_tree.proofs.{handed, id_in, inl, inr, IsGiven, IsTold, kept_made}
use Rattle.document_tree.proofs.{led_part, made_left, made_moves, made_new, made_simple, make_short, meets_given}
use Rattle.document_tree.proofs.{meets_number, name_in, new_within, none-some, part_at, places_of}
use Rattle.document_tree.proofs.{refl, rewritten, row_in}
use Rattle.document_tree.proofs.{shown_of, site_told, slice_get, still_small}
use Rattle.document_tree.proofs.{subst, suc, sym, told_in, told_own}
use Rattle.document_tree.proofs.{◌+◌, ◌∙◌}
use Rattle.document_tree.proofs.document.Document.repeat.Goals as goal

pub returns-in-Err-clause-cause : goal.returns-in-Err-clause-cause
returns-in-Err-clause-cause g c =
    rw (← c.self.view_is) (inr (refl, inl (make_short _ _ c.in-Err.field-0.cause c.in-Err.ensures.step).1))

pub meet-requires-clause-fits : goal.meet-requires-clause-fits
meet-requires-clause-fits g c part at =
    let step = c.in-Ok.ensures.step in
    let moves = made_moves (g.met.S.AnyStorage.sound _) _ _ c.in-Ok.raw step in
    let within = new_within c.self.invariant.simple _ _ c.in-Ok.raw step in
    let more = counted_gain moves c.in_ok-key.key (places_of (row_in c.self.inside.parts.slots c.in_ok-key.key)) (λ e. none-some c.in_ok-key.key e) refl (c.self.invariant.counted c.in_ok-key.key) in
    let small = still_small moves (omega (arith, within, c.slots.ensures.count)) c.self.invariant.small in
    let fits = counted_fits (g.met.S.AnyStorage.sound _) (made_simple (g.met.S.AnyStorage.sound _) c.self.invariant.simple _ _ c.in-Ok.raw step) small (suc (places_of (row_in c.self.inside.parts.slots c.in_ok-key.key))) c.in_ok-key.key more in
    omega (arith, fits, ap places_of at)

pub invariant_of-self-2 : goal.invariant_of-self-2
invariant_of-self-2 g c =
    let was = rw (← c.self.view_is) at c.in_ok-key.ensures.key in
    let to = led_part c.self.invariant (id_in c.args.place) c.in_ok-key.key was in
    let step = c.in-Ok.ensures.step in
    let own = c.handle_at.ensures.id in
    let moves = handed c.handle_at.result c.in-Ok.raw _ own (made_moves (g.met.S.AnyStorage.sound _) _ _ c.in-Ok.raw step) in
    let w = rewritten (c.meet.ensures to.0 to.1) in
    let within = new_within c.self.invariant.simple _ _ c.in-Ok.raw step in
    let slot = ap (λ i. i.slot) own in
    kept_made c.self.invariant (omega arith) (made_simple (g.met.S.AnyStorage.sound _) c.self.invariant.simple _ _ c.in-Ok.raw step) _ _ moves
    (omega (arith, within, slot, c.slots.ensures.count)) _ (sym (ap (λ row. places_of row + 1) to.1))
    (subst (IsTold (told_in c.self.inside.sites)) to.1 (c.self.invariant.told c.in_ok-key.key)).0 w

pub returns-clause-part : goal.returns-clause-part
returns-clause-part g c =
    let was = rw (← c.self.view_is) at c.in_ok-key.ensures.key in
    let to = led_part c.self.invariant (id_in c.args.place) c.in_ok-key.key was in
    let step = c.in-Ok.ensures.step in
    let own = c.handle_at.ensures.id in
    let moves = handed c.handle_at.result c.in-Ok.raw _ own (made_moves (g.met.S.AnyStorage.sound _) _ _ c.in-Ok.raw step) in
    rw (← c.self.view_is) (moves.is ∙ sym was)

pub returns-clause-shown : goal.returns-clause-shown
returns-clause-shown g c =
    let was = rw (← c.self.view_is) at c.in_ok-key.ensures.key in
    let to = led_part c.self.invariant (id_in c.args.place) c.in_ok-key.key was in
    let step = c.in-Ok.ensures.step in
    let own = c.handle_at.ensures.id in
    let moves = handed c.handle_at.result c.in-Ok.raw _ own (made_moves (g.met.S.AnyStorage.sound _) _ _ c.in-Ok.raw step) in
    let w = rewritten (c.meet.ensures to.0 to.1) in
    rw (← c.self.view_is) (ap (λ o. shown_of (part_at c.meet.new.parts.slots o)) moves.is ∙ (ap shown_of w.at
    ∙ (sym (ap shown_of to.1) ∙ sym (ap (λ o. shown_of (part_at c.self.inside.parts.slots o)) was))))

pub returns-clause-here : goal.returns-clause-here
returns-clause-here g c =
    let was = rw (← c.self.view_is) at c.in_ok-key.ensures.key in
    let to = led_part c.self.invariant (id_in c.args.place) c.in_ok-key.key was in
    let step = c.in-Ok.ensures.step in
    let own = c.handle_at.ensures.id in
    let bears = ap (λ i. i.store) own ∙ ((made_new _ _ _ _ step).0 ∙ sym (meets_number _ _ _ _ step)) in
    let sites = told_in c.self.inside.sites in
    let site = rw (← c.self.view_is) at c.in_ok-key.ensures.site in
    let added = ap (λ o. site_told sites (part_at c.self.inside.parts.slots o)) was ∙ ap (site_told sites) to.1 in
    let at = get_there sites to.0.site (subst (IsTold sites) to.1 (c.self.invariant.told c.in_ok-key.key)).0 in
    rw (← c.self.view_is) (
      at.0,
      added ∙ at.1,
      told_own _ sites c.handle_at.result bears ∙ (ap (slice_get sites) c.handle_at.ensures.site ∙ (sym site ∙ (added ∙ at.1))),
    )

pub returns-clause-others : goal.returns-clause-others
returns-clause-others g c =
    let was = rw (← c.self.view_is) at c.in_ok-key.ensures.key in
    let to = led_part c.self.invariant (id_in c.args.place) c.in_ok-key.key was in
    let step = c.in-Ok.ensures.step in
    let own = c.handle_at.ensures.id in
    let moves = handed c.handle_at.result c.in-Ok.raw _ own (made_moves (g.met.S.AnyStorage.sound _) _ _ c.in-Ok.raw step) in
    let w = rewritten (c.meet.ensures to.0 to.1) in
    rw (← c.self.view_is) (λ q ne. made_left _ _ moves w q (λ one. ne (sym one)) (λ at. sym (ap shown_of to.1)))

pub returns-clause-left : goal.returns-clause-left
returns-clause-left g c =
    let was = rw (← c.self.view_is) at c.in_ok-key.ensures.key in
    let to = led_part c.self.invariant (id_in c.args.place) c.in_ok-key.key was in
    let step = c.in-Ok.ensures.step in
    let own = c.handle_at.ensures.id in
    let moves = handed c.handle_at.result c.in-Ok.raw _ own (made_moves (g.met.S.AnyStorage.sound _) _ _ c.in-Ok.raw step) in
    let w = rewritten (c.meet.ensures to.0 to.1) in
    rw (← c.self.view_is) (λ q made. made_left _ _ moves w q (given_apart _ _ c.in-Ok.raw c.handle_at.result q own step made)
    (λ at. sym (ap shown_of to.1)))

pub returns-clause-made : goal.returns-clause-made
returns-clause-made g c =
    subst (λ id. IsGiven (g.S.AnyStorage.state c.new-2.new.self) (name_in id)) (sym c.handle_at.ensures.id)
    ((made_new _ _ _ _ c.in-Ok.ensures.step).2)

pub returns-clause-kept : goal.returns-clause-kept
returns-clause-kept g c q = rw (← c.self.view_is) (meets_given _ _ _ _ c.in-Ok.ensures.step _)
