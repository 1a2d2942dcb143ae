use Rattle.generational_sessions.proofs.{◌≡◌, Some, refl, arith, slice_get, common_steps, gets}
use Rattle.generational_sessions.proofs.{Reader, Writer, held_there, set_there, back_reply}
use Rattle.generational_sessions.specs.declared.places.Thing.TheVariants.{Nothing}
use Rattle.generational_sessions.proofs.places.release.Goals as goal

pub returns-in-Reader-clause-step : goal.returns-in-Reader-clause-step
returns-in-Reader-clause-step g c =
    let items = c.args.things.now.items in let after = c.replace.ensures.after in
    let there : slice_get items c.args.place ≡ Some (Reader c.in-Reader.guard) =
    grind (arith, common_steps, gets) in
    rw (held_there _ _ _ there)
    (_, c.release.ensures, refl, refl, set_there items _ c.args.place Nothing (cc after))

pub returns-in-Writer-clause-step : goal.returns-in-Writer-clause-step
returns-in-Writer-clause-step g c =
    let items = c.args.things.now.items in let after = c.replace.ensures.after in
    let there : slice_get items c.args.place ≡ Some (Writer c.in-Writer.guard) =
    grind (arith, common_steps, gets) in
    let told = back_reply c.args.place _ in let release = c.release-in-Writer.ensures in
    rw (held_there _ _ _ there)
    (_, release, told.0, told.1, set_there items _ c.args.place Nothing (cc after))
