use Rattle.exr_attributes.proofs.Entries.{found, nowhere}
use Rattle.exr_attributes.proofs.map.AttributeMap.find.Goals as goal

pub returns-in-Some : goal.returns-in-Some
returns-in-Some c =
    found c.args.name.now c.as_slice.result.now c.self.inside.entries.items c.args.self.now c.in-Some.place c.index.result.now c.as_slice.ensures.value c.self.view_is c.in-Some.ensures c.index.ensures

pub returns-in-None : goal.returns-in-None
returns-in-None c =
    nowhere c.args.name.now c.as_slice.result.now c.self.inside.entries.items c.args.self.now c.as_slice.ensures.value c.self.view_is c.in-None.ensures
