use Rattle.std.proofs.Common.{Ok}
use Rattle.signals.proofs.scope.Scope.new.Goals as goal

pub returns : goal.returns
returns g c =
    let sound = g.met.S.AnyStorage.sound c.args.store.now in
    let step = c.in_ok-owner.ensures in
    let owners = c.calls_leave_other_owners.ensures in record {
      step = step;
      empty = c.owners_list_their_boxes.ensures.owned _ _ (Ok c.in_ok-owner.owner) step;
      unknown = owners.unknown _ _ (Ok c.in_ok-owner.owner) sound step;
      others = λ b. c.calls_leave_other_boxes.ensures.left _ _ _ _ sound step b tt tt;
      scopes = λ o _. owners.known _ _ _ _ sound step o _ tt;
      refused = tt;
    }
