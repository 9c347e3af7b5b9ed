use Rattle.std.proofs.Common.{◌∙◌, not, sym, ap}
use Rattle.std.specs.List.{list_all}
use Rattle.rust_code.specs.SeenTypes.{are_without_parts, has_parts, seen_types}
use Rattle.rust_code.proofs.TypesFound.{arguments_found, arguments_missing, without_parts}
use Rattle.rust_code.proofs.types.are_copied.Goals as goal

pub returns-in-Some : goal.returns-in-Some
returns-in-Some c =
    let tyenv = c.args.tables.now.tyenv.now in
    let terms = c.args.tables.now.terms.now in
    let term = c.in-Some.term.now in
    c.are_all_copied.ensures ∙ ap (list_all (λ ty. not (has_parts tyenv ty.0))) c.deref.ensures.value ∙ sym (without_parts tyenv term.arg_tys.items)
    ∙ sym
    (ap (are_without_parts tyenv)
    (ap (seen_types terms) c.in-OfArguments.is ∙ arguments_found terms c.in-OfArguments.term.0 c.index.result c.index.ensures term c.in-Some.ensures.lookup.3.0 c.in-Some.ensures.lookup.1))

pub returns-in-None : goal.returns-in-None
returns-in-None c =
    let tyenv = c.args.tables.now.tyenv.now in
    let terms = c.args.tables.now.terms.now in
    sym (ap (are_without_parts tyenv) (ap (seen_types terms) c.in-OfArguments.is ∙ arguments_missing terms c.in-OfArguments.term.0 c.index.result c.index.ensures c.in-None.ensures.lookup.3))
