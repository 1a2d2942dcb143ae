use Rattle.document_tree.proofs.Flagging.{IsAmongFirst}
use Rattle.document_tree.specs.Flagging.{Flags}
use Rattle.document_tree.proofs.document.Document.flag_children.Given as goal

-- the first children are flagged
abbrev pub invariant-loop-at : goal.invariant-loop-at
invariant-loop-at g l = record {
  flags : Flags l.self (IsAmongFirst l.children l.at) l.fn.flags.items l.flags.items;
}
