use Rattle.document_tree.proofs.{ap, arith, given_apart}
use Rattle.document_tree.proofs.{handed, id_in, inl, inr, IsGiven, kept_made}
use Rattle.document_tree.proofs.{made_left, made_moves, made_new, made_simple, make_short, meets_given}
use Rattle.document_tree.proofs.{meets_number, name_in, new_within, part_at, places_of}
use Rattle.document_tree.proofs.{rewritten, rewritten_from}
use Rattle.document_tree.proofs.{shown_of, site_told, slice_get, slice_get_within, Some}
use Rattle.document_tree.proofs.{still_told, subst, sym, tells_here, told_in, told_longer, told_own, told_within, unled, untold}
use Rattle.document_tree.proofs.{◌+◌, ◌∙◌}
use Rattle.document_tree.proofs.document.Document.add.Goals as goal

pub tell-requires : goal.tell-requires
tell-requires g c =
    let at = c.in-Ok.ensures.found in slice_get_within c.find_or_add.new.self.all c.in-Ok.site at.kept at.there

pub returns-in_default-clause-short : goal.returns-in_default-clause-short
returns-in_default-clause-short g c =
    let sites = c.self.inside.sites in
    rw (← c.self.view_is) (inr (inr (inl (untold sites.told sites.all c.args.here c.in_default.ensures.absent))))

pub returns-in-Err-clause-short : goal.returns-in-Err-clause-short
returns-in-Err-clause-short g c =
    rw (← c.self.view_is) (inl (make_short _ _ c.in-Err.field-0.cause c.in-Err.ensures.step).1)

pub invariant_of-self-2 : goal.invariant_of-self-2
invariant_of-self-2 g c =
    let step = c.in-Ok-new.ensures.step in
    let own = c.handle_at-place.ensures.id in
    let moves = handed c.handle_at-place.result c.in-Ok-new.raw _ own (made_moves (g.met.S.AnyStorage.sound _) _ _ c.in-Ok-new.raw step) in
    let is = c.insert_reserved.ensures.key ∙ (c.make_room.ensures.key ∙ sym c.vacant_key-key.ensures.value) in
    let w = rewritten_from c.make_room.ensures.slots is (rewritten c.insert_reserved.ensures.updates) in
    let at = c.in-Ok.ensures.found in
    let fits = new_within c.self.invariant.simple _ _ c.in-Ok-new.raw step in
    let slot = ap (λ i. i.slot) own in
    let more = told_longer c.find_or_add.new.self c.tell.new.self _ c.tell.ensures.kept c.tell.ensures.all c.find_or_add.ensures.told in
    let site = told_within c.tell.new.self c.in-Ok.site at.kept c.tell.ensures.told
    (ap (λ l. slice_get l c.in-Ok.site) c.tell.ensures.all ∙ at.there) in
    kept_made c.self.invariant more (made_simple (g.met.S.AnyStorage.sound _) c.self.invariant.simple _ _ c.in-Ok-new.raw step) _ _ moves
    (omega (arith, fits, slot, c.slots.ensures.count)) _
    (sym (ap (λ row. places_of row + 1) c.vacant_key-key.ensures.vacant)) site w

pub returns-clause-shown : goal.returns-clause-shown
returns-clause-shown g c =
    let step = c.in-Ok-new.ensures.step in
    let own = c.handle_at-place.ensures.id in
    let moves = handed c.handle_at-place.result c.in-Ok-new.raw _ own (made_moves (g.met.S.AnyStorage.sound _) _ _ c.in-Ok-new.raw step) in
    let is = c.insert_reserved.ensures.key ∙ (c.make_room.ensures.key ∙ sym c.vacant_key-key.ensures.value) in
    let w = rewritten_from c.make_room.ensures.slots is (rewritten c.insert_reserved.ensures.updates) in
    ap (λ o. shown_of (part_at c.insert_reserved.new.self.slots o)) moves.is ∙ (ap shown_of w.at
    ∙ ap (λ places. Some (record { content = c.args.content; children = places })) c.new-children.ensures.items)

pub returns-clause-others : goal.returns-clause-others
returns-clause-others g c =
    let step = c.in-Ok-new.ensures.step in
    let own = c.handle_at-place.ensures.id in
    let moves = handed c.handle_at-place.result c.in-Ok-new.raw _ own (made_moves (g.met.S.AnyStorage.sound _) _ _ c.in-Ok-new.raw step) in
    let is = c.insert_reserved.ensures.key ∙ (c.make_room.ensures.key ∙ sym c.vacant_key-key.ensures.value) in
    let w = rewritten_from c.make_room.ensures.slots is (rewritten c.insert_reserved.ensures.updates) in
    rw (← c.self.view_is) (λ q ne. made_left _ _ moves w q (λ one. ne (sym one))
    (λ at. absurd (unled c.self.invariant _ c.vacant_key-key.ensures.vacant (id_in q) at)))

pub returns-clause-left : goal.returns-clause-left
returns-clause-left g c =
    let step = c.in-Ok-new.ensures.step in
    let own = c.handle_at-place.ensures.id in
    let moves = handed c.handle_at-place.result c.in-Ok-new.raw _ own (made_moves (g.met.S.AnyStorage.sound _) _ _ c.in-Ok-new.raw step) in
    let is = c.insert_reserved.ensures.key ∙ (c.make_room.ensures.key ∙ sym c.vacant_key-key.ensures.value) in
    let w = rewritten_from c.make_room.ensures.slots is (rewritten c.insert_reserved.ensures.updates) in
    rw (← c.self.view_is) (λ q made. made_left _ _ moves w q (given_apart _ _ c.in-Ok-new.raw c.handle_at-place.result q own step made)
    (λ at. absurd (unled c.self.invariant _ c.vacant_key-key.ensures.vacant (id_in q) at)))

pub returns-clause-alone : goal.returns-clause-alone
returns-clause-alone g c =
    let step = c.in-Ok-new.ensures.step in
    let own = c.handle_at-place.ensures.id in
    let moves = handed c.handle_at-place.result c.in-Ok-new.raw _ own (made_moves (g.met.S.AnyStorage.sound _) _ _ c.in-Ok-new.raw step) in
    rw (← c.self.view_is) (λ q made same.
    let apart = given_apart _ _ c.in-Ok-new.raw c.handle_at-place.result q own step made in
    unled c.self.invariant _ c.vacant_key-key.ensures.vacant (id_in q)
    (sym (moves.others (id_in q) apart) ∙ (sym same ∙ moves.is)))

pub returns-clause-made : goal.returns-clause-made
returns-clause-made g c =
    subst (λ id. IsGiven (g.S.AnyStorage.state c.new.new.self) (name_in id)) (sym c.handle_at-place.ensures.id)
    ((made_new _ _ _ _ c.in-Ok-new.ensures.step).2)

pub returns-clause-key : goal.returns-clause-key
returns-clause-key g c =
    let step = c.in-Ok-new.ensures.step in
    let own = c.handle_at-place.ensures.id in
    let moves = handed c.handle_at-place.result c.in-Ok-new.raw _ own (made_moves (g.met.S.AnyStorage.sound _) _ _ c.in-Ok-new.raw step) in
    rw (← c.self.view_is) (moves.is ∙ ap Some c.vacant_key-key.ensures.value)

pub returns-clause-here : goal.returns-clause-here
returns-clause-here g c =
    let step = c.in-Ok-new.ensures.step in
    let own = c.handle_at-place.ensures.id in
    let bears = ap (λ i. i.store) own ∙ ((made_new _ _ _ _ step).0 ∙ sym (meets_number _ _ _ _ step)) in
    tells_here _ c.tell.new.self c.handle_at-place.result c.args.here bears
    (omega (arith, c.handle_at-place.ensures.site, c.tell.ensures.told))
    (rw (c.tell.ensures.all, c.handle_at-place.ensures.site) c.in-Ok.ensures.found)

pub returns-clause-added : goal.returns-clause-added
returns-clause-added g c =
    let step = c.in-Ok-new.ensures.step in
    let own = c.handle_at-place.ensures.id in
    let moves = handed c.handle_at-place.result c.in-Ok-new.raw _ own (made_moves (g.met.S.AnyStorage.sound _) _ _ c.in-Ok-new.raw step) in
    let is = c.insert_reserved.ensures.key ∙ (c.make_room.ensures.key ∙ sym c.vacant_key-key.ensures.value) in
    let w = rewritten_from c.make_room.ensures.slots is (rewritten c.insert_reserved.ensures.updates) in
    let bears = ap (λ i. i.store) own ∙ ((made_new _ _ _ _ step).0 ∙ sym (meets_number _ _ _ _ step)) in
    ap (λ o. site_told (told_in c.tell.new.self) (part_at c.insert_reserved.new.self.slots o)) moves.is
    ∙ (ap (site_told (told_in c.tell.new.self)) w.at
    ∙ (ap (slice_get (told_in c.tell.new.self)) (sym c.handle_at-place.ensures.site)
    ∙ sym (told_own _ (told_in c.tell.new.self) c.handle_at-place.result bears)))

pub returns-clause-tells : goal.returns-clause-tells
returns-clause-tells g c p l told =
    still_told _ _ c.find_or_add.new.self c.tell.new.self _ p l (meets_number _ _ _ _ c.in-Ok-new.ensures.step)
    c.tell.ensures.kept c.tell.ensures.all c.find_or_add.ensures.told (rw (← c.self.view_is) at told)

pub returns-clause-kept : goal.returns-clause-kept
returns-clause-kept g c q = rw (← c.self.view_is) (meets_given _ _ _ _ c.in-Ok-new.ensures.step _)
