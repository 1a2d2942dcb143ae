use Rattle.reactive.proofs.Linking.{Relinking}
use Rattle.reactive.proofs.{length, ◌+◌, ◌<◌, ◌≡◌}
use Rattle.reactive.proofs.links.Web.relink.Given as goal

abbrev pub invariant-loop-read : goal.invariant-loop-read
invariant-loop-read l = Relinking l.fn.self l.slot l.number l.reads l.read-index l.self × (l.slot < length l.self.owners.items)
    × (l.fn.self.number ≡ l.number) × (l.self.number ≡ l.number + 1)
