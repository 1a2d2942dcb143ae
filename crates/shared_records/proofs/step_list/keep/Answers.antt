use Rattle.shared_records.proofs.{grown_reached, grown_steps, grown_within, grows_apart, grows_wider}
use Rattle.shared_records.proofs.{plain_goes_on, plain_same, plain_within}
use Rattle.shared_records.specs.Decoding.{reached_first, tables}
use Rattle.std.proofs.Common.{sym, ◌∙◌}
use Rattle.shared_records.proofs.step_list.keep.Goals as goal

-- ==== a short item

pub returns-in-Some-clause-within : goal.returns-in-Some-clause-within
returns-in-Some-clause-within g c =
    let t = tables c.args.locations.now c.args.long.now.items c.args.far.now.items in
    let u = tables c.shortened.new.locations c.args.long.now.items c.args.far.now.items in
    grown_within g.row.NUMBER (reached_first c.args.start) c.in-Some.short c.shortened.ensures.names
    (grows_wider t c.shortened.ensures.extends) c.push.ensures.items c.requires.within c.requires.reached
    (plain_within g.row.NUMBER u c.in-Some.ensures.form)

pub returns-in-Some-clause-reached : goal.returns-in-Some-clause-reached
returns-in-Some-clause-reached g c =
    let t = tables c.args.locations.now c.args.long.now.items c.args.far.now.items in
    let u = tables c.shortened.new.locations c.args.long.now.items c.args.far.now.items in
    c.advance.ensures ∙ sym (plain_goes_on g.row.NUMBER u c.in-Some.ensures.form)
    ∙ grown_reached g.row.NUMBER (reached_first c.args.start) c.in-Some.short c.shortened.ensures.names
    (grows_wider t c.shortened.ensures.extends) c.push.ensures.items c.requires.within c.requires.reached

pub returns-in-Some-clause-steps : goal.returns-in-Some-clause-steps
returns-in-Some-clause-steps g c =
    let t = tables c.args.locations.now c.args.long.now.items c.args.far.now.items in
    let u = tables c.shortened.new.locations c.args.long.now.items c.args.far.now.items in
    grown_steps g.row.NUMBER (reached_first c.args.start) c.in-Some.short c.shortened.ensures.names
    (grows_wider t c.shortened.ensures.extends) c.push.ensures.items c.requires.within c.requires.reached _
    (plain_same g.row.NUMBER u c.in-Some.ensures.form)

-- ==== a step that is kept apart

pub returns-in-None-clause-own : goal.returns-in-None-clause-own
returns-in-None-clause-own g c = c.keep_apart.ensures.own c.requires.own

pub returns-in-None-clause-within : goal.returns-in-None-clause-within
returns-in-None-clause-within g c =
    let t = tables c.args.locations.now c.args.long.now.items c.args.far.now.items in
    let kept = c.keep_apart.ensures.kept in
    grown_within g.row.NUMBER (reached_first c.args.start) kept.0 c.shortened.ensures.names
    (grows_apart t c.shortened.ensures.extends kept.2) kept.1 c.requires.within c.requires.reached
    (kept.2.within c.shortened.new.locations)

pub returns-in-None-clause-reached : goal.returns-in-None-clause-reached
returns-in-None-clause-reached g c =
    let t = tables c.args.locations.now c.args.long.now.items c.args.far.now.items in
    let kept = c.keep_apart.ensures.kept in
    c.advance-in-None.ensures ∙ sym (kept.2.goes_on c.shortened.new.locations)
    ∙ grown_reached g.row.NUMBER (reached_first c.args.start) kept.0 c.shortened.ensures.names
    (grows_apart t c.shortened.ensures.extends kept.2) kept.1 c.requires.within c.requires.reached

pub returns-in-None-clause-steps : goal.returns-in-None-clause-steps
returns-in-None-clause-steps g c =
    let t = tables c.args.locations.now c.args.long.now.items c.args.far.now.items in
    let kept = c.keep_apart.ensures.kept in
    grown_steps g.row.NUMBER (reached_first c.args.start) kept.0 c.shortened.ensures.names
    (grows_apart t c.shortened.ensures.extends kept.2) kept.1 c.requires.within c.requires.reached _
    (kept.2.same c.shortened.new.locations)
