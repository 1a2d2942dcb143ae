use Rattle.document_tree.proofs.{put_some, refl}
use Rattle.document_tree.proofs.building.put.Goals as goal

pub returns-in-Some-clause-put : goal.returns-in-Some-clause-put
returns-in-Some-clause-put g c = put_some c.args.parts.now c.insert_reserved.new.self c.args.row c.in-Some.field-0
    (record {
      content = c.in-Some.field-0.content;
      children = c.in-Some.field-0.children;
      places = c.args.places;
      site = c.args.site;
    })
    c.args.places c.args.site c.insert_reserved.result c.in-Some.is c.insert_reserved.ensures.was_vacant
    c.insert_reserved.ensures.updates refl refl refl refl
