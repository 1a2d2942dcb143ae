use Rattle.reactive.proofs.Linking.{begin_drop, drop_more, dropped_all, dropped_room}
use Rattle.reactive.proofs.{ap, arith, refl, rules, slice_get, Some, sym, ◌∙◌, ◌≡◌}
use Rattle.std.proofs.lemmas.Option.{slice_get_read}
use Rattle.reactive.specs.Links.{edges_at, edges_by}
use Rattle.reactive.proofs.links.Marks.drop_readers.Goals as goal

pub loop-edge-init : goal.loop-edge-init
loop-edge-init c = (
  c.requires.room,
  omega arith,
  λ before listed. (before, listed, begin_drop c.args.web.now c.args.self.now.known.items before _),
)

pub loop-edge-preserved : goal.loop-edge-preserved
loop-edge-preserved c =
    let inv = c.loop-edge.invariant in
    let d = c.drop_reader.ensures.dropped in
    let room = dropped_room c.args.web.now _ c.loop-edge.self c.drop_reader.new.self d inv.0 in (
      room.0,
      omega (arith, room.1, inv.1),
      λ before listed.
          let h = inv.2 before listed in
          drop_more c.args.web.now c.args.self.now.known.items before _ c.loop-edge.edge-index _
          (search (rules, arith)) (search rules) c.loop-edge.self c.drop_reader.new.self h.0 h.2 h.1 d,
    )

pub returns-clause-dropped : goal.returns-clause-dropped
returns-clause-dropped c = λ before listed.
    let rs = c.args.web.now.readers.items in
    let look = c.in-Some.ensures.lookup in
    let at : slice_get c.deref.result.now c.args.slot ≡ Some c.in-Some.edges.now =
    slice_get_read c.deref.result.now _ c.args.slot c.in-Some.edges.now refl look.3.0 look.1 in
    let edges : c.as_slice-edge-items.result.now ≡ edges_at c.args.web.now c.args.slot =
    c.as_slice-edge-items.ensures ∙ (ap edges_by (sym at) ∙ ap (λ xs. edges_by (slice_get xs c.args.slot)) c.deref.ensures.value) in
    let h = (rw edges at c.loop-edge.invariant.2) before listed in (
      h.0,
      h.1,
      dropped_all c.args.web.now c.args.self.now.known.items _ before h.0 c.args.slot c.loop-edge.edge-index
          (search (rules, arith)) h.2,
    )
