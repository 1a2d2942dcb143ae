use Rattle.generational_sessions.proofs.{◌≡◌, Some, refl, arith, slice_get, common_steps, gets}
use Rattle.generational_sessions.proofs.{held_there, set_there, exchange_gives}
use Rattle.generational_sessions.proofs.places.replace.Goals as goal

pub returns-in-Some-clause-step : goal.returns-in-Some-clause-step
returns-in-Some-clause-step g c =
    let there : slice_get c.args.things.now.items c.args.place ≡ Some c.in-Some.thing.now =
    grind (arith, common_steps, gets, c.in-Some.ensures) in
    exchange_gives _ c.args.things.now.items _ c.args.place c.args.value _ c.exchange.new.thing _ refl
    (set_there c.args.things.now.items _ c.args.place c.exchange.new.thing refl)
    (rw (held_there _ _ _ there) c.exchange.ensures.reply)
    (rw (held_there _ _ _ there) c.exchange.ensures.thing)
