use Rattle.std.proofs.Common.{sym}
use Rattle.rust_code.proofs.TypesFound.{type_found, type_missing}
use Rattle.rust_code.proofs.types.type_at.Goals as goal

pub returns-in-Some : goal.returns-in-Some
returns-in-Some c = λ terms. sym (type_found c.args.types.now c.args.place c.index.result c.index.ensures.number (λ ty. ty.0) c.in-Some.ty.now c.in-Some.ensures.lookup.3.0 c.in-Some.ensures.lookup.1)

pub returns-in-None : goal.returns-in-None
returns-in-None c = λ terms. sym (type_missing c.args.types.now c.args.place c.index.result c.index.ensures.number (λ ty. ty.0) c.in-None.ensures.lookup.3)
