use Rattle.example_callers.proofs.{ap, arith, common_steps, each_at, Err, free_read_lacks, free_reads, IsFree}
use Rattle.example_callers.proofs.{opens_free, read_beside, reads_back, refused_free_read, rules, shown_at}
use Rattle.example_callers.proofs.{shown_in, sym, ◌∙◌}
use Rattle.example_callers.proofs.table.Table.get.Goals as goal

pub read-requires : goal.read-requires
read-requires g c =
    free_reads _ _ (each_at (IsFree _) _ c.args.row c.in-Some.target c.self.invariant.free
    (sym c.box_in.ensures ∙ c.in-Some.is))

pub invariant_of-self-2 : goal.invariant_of-self-2
invariant_of-self-2 g c =
    let sound = g.met.S.AnyStorage.sound in
    (read_beside (sound _) _ c.self.invariant
    (reads_back _ _ c.in-Ok.guard _ (sound _) c.in-Ok.ensures c.release.ensures)).0

pub returns : goal.returns
returns g c =
    let sound = g.met.S.AnyStorage.sound in
    let back = reads_back _ _ c.in-Ok.guard _ (sound _) c.in-Ok.ensures c.release.ensures in
    let next = ap (λ X. X.next) back in
    let read = opens_free _ _ _ c.read.ensures in
    let state = g.S.AnyStorage.state c.self.inside.store in
    let shown = shown_at state c.self.inside.rows.items c.args.row
    ∙ ap (shown_in state) (sym c.box_in.ensures ∙ c.in-Some.is) in record {
      value = rw (← c.self.view_is, shown) (grind (arith, common_steps));
      same = rw (← c.self.view_is) (read_beside (sound _) _ c.self.invariant back).1;
      looks = rw (← c.self.view_is) (omega (arith, next));
      cause = search rules;
      err = search rules;
    }

pub returns-in-Err : goal.returns-in-Err
returns-in-Err g c =
    let lacks = free_read_lacks _ _ _ (each_at (IsFree _) _ c.args.row c.in-Some.target c.self.invariant.free
    (sym c.box_in.ensures ∙ c.in-Some.is)) c.in-Err.ensures in
    let same = refused_free_read _ (Err c.in-Err.cause) c.in-Err.ensures in
    rw (← c.self.view_is, same) (grind arith)
