use Rattle.reactive.proofs.{ap, is_some, is_some_copied, key_pointer, not_found, option_copied, seen_writes, set_had, set_puts, simple_still, stuck_none, sym, ◌∙◌, ◌≡◌}
use Rattle.std.specs.Prelude.{false, not, true}
use Rattle.reactive.proofs.nodes.Nodes.change.Goals as goal

pub returns-in_default-clause-none : goal.returns-in_default-clause-none
returns-in_default-clause-none g c = not_found _ (key_pointer c.args.key) c.in_default.ensures

pub returns-then-is_none-clause-none : goal.returns-then-is_none-clause-none
returns-then-is_none-clause-none g c =
    let sound = g.met.S.AnyStorage.sound _ in
    let stuck : is_some (option_copied c.peek.result) ≡ false = is_some_copied c.peek.result ∙ (c.is_none.ensures ∙ ap not c.if-is_none.true) in
    stuck_none sound c.requires.simple c.args.key c.in-Some.pointer c.in-Some.ensures
    (seen_writes sound c.requires.simple c.in-Some.pointer c.peek.ensures) stuck

pub change_value-requires-clause-free : goal.change_value-requires-clause-free
change_value-requires-clause-free g c =
    let free : is_some (option_copied c.peek.result) ≡ true = is_some_copied c.peek.result ∙ (c.is_none.ensures ∙ ap not c.if-is_none.false) in
    sym (seen_writes (g.met.S.AnyStorage.sound _) c.requires.simple c.in-Some.pointer c.peek.ensures) ∙ free

pub returns-clause-simple : goal.returns-clause-simple
returns-clause-simple g c =
    simple_still (g.met.S.AnyStorage.sound _) c.requires.simple _ _ c.change_value.ensures.set tt tt

pub returns-clause-changed : goal.returns-clause-changed
returns-clause-changed g c =
    let done = c.change_value.ensures in
    let sound = g.met.S.AnyStorage.sound _ in
    let writes = seen_writes sound c.requires.simple c.in-Some.pointer c.peek.ensures in
    let free : is_some (option_copied c.peek.result) ≡ true = is_some_copied c.peek.result ∙ (c.is_none.ensures ∙ ap not c.if-is_none.false) in record {
      was = done.old;
      is = done.new;
      had = set_had sound c.requires.simple c.args.key c.in-Some.pointer c.in-Some.ensures writes free done.new done.old done.set;
      called = done.called;
      put = set_puts sound c.requires.simple c.args.key c.in-Some.pointer c.in-Some.ensures writes free done.new done.old done.set;
    }
