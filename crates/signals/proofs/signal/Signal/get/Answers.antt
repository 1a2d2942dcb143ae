use Rattle.std.proofs.Common.{Ok, sym, ◌∙◌}
use Rattle.signals.proofs.signal.Signal.get.Goals as goal

pub unreachable-requires : goal.unreachable-requires
unreachable-requires g c =
    let guard = Ok c.in_ok-guard.guard in
    let read = c.guards_stay_known.ensures.read _ _ _ _ guard c.in_ok-guard.ensures in cc (read.1)

pub returns : goal.returns
returns g c =
    let guard = Ok c.in_ok-guard.guard in
    let read = c.guards_stay_known.ensures.read _ _ _ _ guard c.in_ok-guard.ensures in
    let seen = read.2 ∙ (sym read.1 ∙ (sym c.deref.ensures ∙ c.in-Some.is)) in record {
      read = (_, seen, (_, c.f-answer.ensures, c.deref-in-Some.ensures));
      ticket = c.unborrowed_boxes_are_free.ensures.released _ _ _ _ _ _ _
          (g.met.S.AnyStorage.sound _) c.in_ok-guard.ensures c.release.ensures;
      refused = tt;
    }
