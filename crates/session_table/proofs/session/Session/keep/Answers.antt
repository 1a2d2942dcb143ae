use Rattle.indexmap.proofs.CallerLemmas.{insert_entry-new}
use Rattle.session_table.proofs.{[], ap, arith, making, name_of, no_value, put_number, slice_get_within, slot_within}
use Rattle.session_table.proofs.{still_told, sym, tells_here, ◌++◌, ◌∙◌, ◌∷◌}
use Rattle.session_table.proofs.session.Session.keep.Goals as goal

pub returns-clause-here : goal.returns-clause-here
returns-clause-here g c =
    tells_here _ c.tell.new.self c.handle_at-entry.result c.args.here (put_number _ _ c.handle_at-entry.result
    (c.in-Ok-new.raw, c.in-Ok-new.ensures.step, c.handle_at-entry.ensures.id))
    (omega (arith, c.handle_at-entry.ensures.site, c.tell.ensures.told))
    (rw (c.tell.ensures.all, c.handle_at-entry.ensures.site) c.in-Ok.ensures.found)

pub returns-clause-tells : goal.returns-clause-tells
returns-clause-tells g c e l =
    still_told _ c.find_or_add.new.self c.tell.new.self _ e l c.tell.ensures.kept c.tell.ensures.all
    c.find_or_add.ensures.told

pub handle_at-entry-requires : goal.handle_at-entry-requires
handle_at-entry-requires g c =
    let step = c.in-Ok-new.ensures.step in
    let fits = slot_within _ (name_of c.in-Ok-new.raw) c.requires.bounded (making _ _ c.in-Ok-new.raw step).fits in
    grind (arith, fits)

pub tell-requires : goal.tell-requires
tell-requires g c = let at = c.in-Ok.ensures.found in slice_get_within _ _ at.kept at.there

pub returns-clause-entries : goal.returns-clause-entries
returns-clause-entries g c =
    let none = no_value _ (sym c.contains_key.ensures ∙ c.if-contains_key.false) in
    c.in-Ok-insert.ensures.entries
    ∙ (insert_entry-new g.K.PartialEq.eq c.reserve.new.self c.args.key c.handle_at-entry.result
    (rw c.reserve.ensures.entries none)
    ∙ ap (λ es. es ++ (c.args.key, c.handle_at-entry.result) ∷ []) c.reserve.ensures.entries)
