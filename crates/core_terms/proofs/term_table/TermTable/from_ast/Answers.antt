use Rattle.std.proofs.Common.{◌≡◌, ◌++◌, [], length, rules}
use Rattle.std.proofs.lemmas.List.{nil_from_length}
use Rattle.core_syntax.specs.Positions.{positions_of}
use Rattle.core_syntax.specs.SyntaxViews.{definition_views}
use Rattle.core_syntax.proofs.NotedErrors.{name_no_limit}
use Rattle.core_terms.specs.Converting.{ConvertersRead}
use Rattle.core_terms.specs.ExternStages.{ExternsRead}
use Rattle.core_terms.specs.TermErrors.{in_signatures, in_definitions, in_converters, in_externs}
use Rattle.core_terms.specs.Recursion.{ExtractorsRead}
use Rattle.core_syntax.proofs.Positioned.{all_stand, among_left}
use Rattle.core_types.specs.TypePositions.{types_positions}
use Rattle.core_terms.proofs.NotedPositions.{begun, converters_so_far, step_so_far}
use Rattle.core_terms.proofs.ConverterSteps.{all_new}
use Rattle.core_terms.proofs.GroupSteps.{signatures_right, definitions_right, converters_right, first_of_group, first_definition, first_converter, first_declared, first_extern, first_broken, not_read, right_now, all_read, why_refused}
use Rattle.core_terms.proofs.term_table.TermTable.from_ast.Goals as goal

pub read_signatures-requires : goal.read_signatures-requires
read_signatures-requires g c = (
  c.requires.0,
  first_declared g.read (definition_views c.args.defs.now) c.args.tyenv.now _ c.new-errors.result.items c.requires.1 c.in_ok-table.ensures.terms c.in_ok-table.ensures.ids c.in_ok-table.ensures.converters c.new-errors.ensures.items,
)

pub read_converters-requires : goal.read_converters-requires
read_converters-requires g c =
    let none : length c.read_definitions.new.errors.items ≡ 0 = search rules in
    (c.requires.0, (first_converter _ _ _ _ _ (nil_from_length _ none) c.in_ok-read_definitions.ensures.reads, nil_from_length _ none))

pub read_definitions-requires : goal.read_definitions-requires
read_definitions-requires g c =
    let none : length c.read_signatures.new.errors.items ≡ 0 = search rules in
    (c.requires.0, first_definition _ _ _ _ _ (nil_from_length _ none) c.in_ok-read_signatures.ensures.reads)

pub read_externs-requires : goal.read_externs-requires
read_externs-requires g c =
    let defs = definition_views c.args.defs.now in
    let env = c.read_signatures.new.tyenv in
    let none : length c.read_definitions.new.errors.items ≡ 0 = search rules in
    let none_then : length c.read_converters.new.errors.items ≡ 0 = search rules in
    let extractors = right_now g.read _ defs (ExtractorsRead g.read defs) env c.read_definitions.new.self c.read_definitions.new.errors.items c.in_ok-read_definitions.ensures.reads (nil_from_length _ none) in (
      c.requires.0,
      first_extern g.read defs env c.read_converters.new.self c.read_converters.new.errors.items extractors.right.distinct (nil_from_length _ none_then) c.in_ok-read_converters.ensures.reads,
    )

pub returns-clause-answers : goal.returns-clause-answers
returns-clause-answers g c =
    let defs = definition_views c.args.defs.now in
    let env = c.read_signatures.new.tyenv in
    let none : length c.read_definitions.new.errors.items ≡ 0 = search rules in
    let none_then : length c.read_converters.new.errors.items ≡ 0 = search rules in
    let none_left : length c.read_externs.new.errors.items ≡ 0 = search rules in
    let extractors = right_now g.read _ defs (ExtractorsRead g.read defs) env c.read_definitions.new.self c.read_definitions.new.errors.items c.in_ok-read_definitions.ensures.reads (nil_from_length _ none) in
    let converters = right_now g.read _ defs (ConvertersRead g.read defs defs) env c.read_converters.new.self c.read_converters.new.errors.items c.in_ok-read_converters.ensures.reads (nil_from_length _ none_then) in
    let externs = right_now g.read _ defs (ExternsRead g.read defs defs) c.read_externs.new.tyenv c.read_externs.new.self c.read_externs.new.errors.items c.in_ok-read_externs.ensures.reads (nil_from_length _ none_left) in
    all_read g.read c.requires.0 defs c.read_externs.new.tyenv env c.read_externs.new.self c.read_definitions.new.self c.in_ok-read_externs.ensures.left extractors (c.read_converters.new.self, converters) externs

pub returns-then-not-is_empty-clause-refused : goal.returns-then-not-is_empty-clause-refused
returns-then-not-is_empty-clause-refused g c = why_refused g.read _ _ _ _ _ _ c.in_ok-read_signatures.ensures.reads (search rules)

pub returns-then-not-is_empty-2-clause-refused : goal.returns-then-not-is_empty-2-clause-refused
returns-then-not-is_empty-2-clause-refused g c = why_refused g.read _ _ _ _ _ _ c.in_ok-read_definitions.ensures.reads (search rules)

pub returns-then-not-is_empty-3-clause-refused : goal.returns-then-not-is_empty-3-clause-refused
returns-then-not-is_empty-3-clause-refused g c = why_refused g.read _ _ _ _ _ _ c.in_ok-read_converters.ensures.reads (search rules)

pub returns-then-not-is_empty-4-clause-refused : goal.returns-then-not-is_empty-4-clause-refused
returns-then-not-is_empty-4-clause-refused g c = why_refused g.read _ _ _ _ _ _ c.in_ok-read_externs.ensures.reads (search rules)

pub returns-then-not-is_empty-2-clause-no_limit : goal.returns-then-not-is_empty-2-clause-no_limit
returns-then-not-is_empty-2-clause-no_limit g c = name_no_limit _ c.in_ok-read_definitions.ensures.reads.ill_typed

pub returns-then-not-is_empty-3-clause-no_limit : goal.returns-then-not-is_empty-3-clause-no_limit
returns-then-not-is_empty-3-clause-no_limit g c = name_no_limit _ c.in_ok-read_converters.ensures.reads.ill_typed

pub returns-then-not-is_empty-4-clause-no_limit : goal.returns-then-not-is_empty-4-clause-no_limit
returns-then-not-is_empty-4-clause-no_limit g c = name_no_limit _ c.in_ok-read_externs.ensures.reads.ill_typed

pub returns-then-not-is_empty-clause-places : goal.returns-then-not-is_empty-clause-places
returns-then-not-is_empty-clause-places g c =
    let ds = positions_of (definition_views c.args.defs.now) in
    let ts = types_positions g.read.known.types in
    let ps = ds ++ ts in
    let a = c.in_ok-read_signatures.ensures in
    let one = begun ps c.in_ok-table.table c.read_signatures.new.self c.new-errors.result.items c.read_signatures.new.errors.items c.in_ok-table.ensures.terms c.new-errors.ensures.items a.places a.placed in
    all_stand ps c.read_signatures.new.errors.items one.noted

pub returns-then-not-is_empty-2-clause-places : goal.returns-then-not-is_empty-2-clause-places
returns-then-not-is_empty-2-clause-places g c =
    let ds = positions_of (definition_views c.args.defs.now) in
    let ts = types_positions g.read.known.types in
    let ps = ds ++ ts in
    let a = c.in_ok-read_signatures.ensures in
    let one = begun ps c.in_ok-table.table c.read_signatures.new.self c.new-errors.result.items c.read_signatures.new.errors.items c.in_ok-table.ensures.terms c.new-errors.ensures.items a.places a.placed in
    let b = c.in_ok-read_definitions.ensures in
    let two = step_so_far ds ps c.read_signatures.new.self c.read_definitions.new.self [] c.read_signatures.new.errors.items c.read_definitions.new.errors.items (among_left ds ts) b.places b.placed one in
    all_stand ps c.read_definitions.new.errors.items two.noted

pub returns-then-not-is_empty-3-clause-places : goal.returns-then-not-is_empty-3-clause-places
returns-then-not-is_empty-3-clause-places g c =
    let ds = positions_of (definition_views c.args.defs.now) in
    let ts = types_positions g.read.known.types in
    let ps = ds ++ ts in
    let a = c.in_ok-read_signatures.ensures in
    let one = begun ps c.in_ok-table.table c.read_signatures.new.self c.new-errors.result.items c.read_signatures.new.errors.items c.in_ok-table.ensures.terms c.new-errors.ensures.items a.places a.placed in
    let b = c.in_ok-read_definitions.ensures in
    let two = step_so_far ds ps c.read_signatures.new.self c.read_definitions.new.self [] c.read_signatures.new.errors.items c.read_definitions.new.errors.items (among_left ds ts) b.places b.placed one in
    let d = c.in_ok-read_converters.ensures in
    let three = converters_so_far ds ps c.read_definitions.new.self c.read_converters.new.self [] c.read_definitions.new.errors.items c.read_converters.new.errors.items (among_left ds ts) d.places c.read_converters.ensures.terms two in
    all_stand ps c.read_converters.new.errors.items three.noted

pub returns-then-not-is_empty-4-clause-places : goal.returns-then-not-is_empty-4-clause-places
returns-then-not-is_empty-4-clause-places g c =
    let ds = positions_of (definition_views c.args.defs.now) in
    let ts = types_positions g.read.known.types in
    let ps = ds ++ ts in
    let a = c.in_ok-read_signatures.ensures in
    let one = begun ps c.in_ok-table.table c.read_signatures.new.self c.new-errors.result.items c.read_signatures.new.errors.items c.in_ok-table.ensures.terms c.new-errors.ensures.items a.places a.placed in
    let b = c.in_ok-read_definitions.ensures in
    let two = step_so_far ds ps c.read_signatures.new.self c.read_definitions.new.self [] c.read_signatures.new.errors.items c.read_definitions.new.errors.items (among_left ds ts) b.places b.placed one in
    let d = c.in_ok-read_converters.ensures in
    let three = converters_so_far ds ps c.read_definitions.new.self c.read_converters.new.self [] c.read_definitions.new.errors.items c.read_converters.new.errors.items (among_left ds ts) d.places c.read_converters.ensures.terms two in
    let e = c.in_ok-read_externs.ensures in
    let four = step_so_far ds ps c.read_converters.new.self c.read_externs.new.self [] c.read_converters.new.errors.items c.read_externs.new.errors.items (among_left ds ts) e.places e.placed three in
    all_stand ps c.read_externs.new.errors.items four.noted

pub returns-clause-placed : goal.returns-clause-placed
returns-clause-placed g c =
    let ds = positions_of (definition_views c.args.defs.now) in
    let ts = types_positions g.read.known.types in
    let ps = ds ++ ts in
    let a = c.in_ok-read_signatures.ensures in
    let one = begun ps c.in_ok-table.table c.read_signatures.new.self c.new-errors.result.items c.read_signatures.new.errors.items c.in_ok-table.ensures.terms c.new-errors.ensures.items a.places a.placed in
    let b = c.in_ok-read_definitions.ensures in
    let two = step_so_far ds ps c.read_signatures.new.self c.read_definitions.new.self [] c.read_signatures.new.errors.items c.read_definitions.new.errors.items (among_left ds ts) b.places b.placed one in
    let d = c.in_ok-read_converters.ensures in
    let three = converters_so_far ds ps c.read_definitions.new.self c.read_converters.new.self [] c.read_definitions.new.errors.items c.read_converters.new.errors.items (among_left ds ts) d.places c.read_converters.ensures.terms two in
    let e = c.in_ok-read_externs.ensures in
    let four = step_so_far ds ps c.read_converters.new.self c.read_externs.new.self [] c.read_converters.new.errors.items c.read_externs.new.errors.items (among_left ds ts) e.places e.placed three in
    four.kept

pub returns-then-not-is_empty-clause-no_limit : goal.returns-then-not-is_empty-clause-no_limit
returns-then-not-is_empty-clause-no_limit g c = name_no_limit _ c.in_ok-read_signatures.ensures.reads.ill_typed

pub returns-then-not-is_empty-clause-breach : goal.returns-then-not-is_empty-clause-breach
returns-then-not-is_empty-clause-breach g c = first_broken g.read _ _ _ _ _ _ c.in_ok-read_signatures.ensures.reads (search rules)

pub returns-then-not-is_empty-2-clause-breach : goal.returns-then-not-is_empty-2-clause-breach
returns-then-not-is_empty-2-clause-breach g c = first_broken g.read _ _ _ _ _ _ c.in_ok-read_definitions.ensures.reads (search rules)

pub returns-then-not-is_empty-3-clause-breach : goal.returns-then-not-is_empty-3-clause-breach
returns-then-not-is_empty-3-clause-breach g c = first_broken g.read _ _ _ _ _ _ c.in_ok-read_converters.ensures.reads (search rules)

pub returns-then-not-is_empty-4-clause-breach : goal.returns-then-not-is_empty-4-clause-breach
returns-then-not-is_empty-4-clause-breach g c = first_broken g.read _ _ _ _ _ _ c.in_ok-read_externs.ensures.reads (search rules)

pub returns-then-not-is_empty-clause-answers : goal.returns-then-not-is_empty-clause-answers
returns-then-not-is_empty-clause-answers g c = not_read g.read _ _ _ _ _ _ c.in_ok-read_signatures.ensures.reads (search rules)

pub returns-then-not-is_empty-2-clause-answers : goal.returns-then-not-is_empty-2-clause-answers
returns-then-not-is_empty-2-clause-answers g c = not_read g.read _ _ _ _ _ _ c.in_ok-read_definitions.ensures.reads (search rules)

pub returns-then-not-is_empty-3-clause-answers : goal.returns-then-not-is_empty-3-clause-answers
returns-then-not-is_empty-3-clause-answers g c = not_read g.read _ _ _ _ _ _ c.in_ok-read_converters.ensures.reads (search rules)

pub returns-then-not-is_empty-4-clause-answers : goal.returns-then-not-is_empty-4-clause-answers
returns-then-not-is_empty-4-clause-answers g c = not_read g.read _ _ _ _ _ _ c.in_ok-read_externs.ensures.reads (search rules)

pub returns-then-not-is_empty-clause-told : goal.returns-then-not-is_empty-clause-told
returns-then-not-is_empty-clause-told g c = in_signatures (first_of_group g.read _ _ _ _ _ _ c.in_ok-read_signatures.ensures.reads (search rules))

pub returns-then-not-is_empty-2-clause-told : goal.returns-then-not-is_empty-2-clause-told
returns-then-not-is_empty-2-clause-told g c =
    let none : length c.read_signatures.new.errors.items ≡ 0 = search rules in
    let signatures = signatures_right g.read _ _ _ (right_now g.read _ _ _ _ _ _ c.in_ok-read_signatures.ensures.reads (nil_from_length _ none)) in
    in_definitions signatures (first_of_group g.read _ _ _ _ _ _ c.in_ok-read_definitions.ensures.reads (search rules))

pub returns-then-not-is_empty-3-clause-told : goal.returns-then-not-is_empty-3-clause-told
returns-then-not-is_empty-3-clause-told g c =
    let none : length c.read_signatures.new.errors.items ≡ 0 = search rules in
    let none_then : length c.read_definitions.new.errors.items ≡ 0 = search rules in
    let signatures = signatures_right g.read _ _ _ (right_now g.read _ _ _ _ _ _ c.in_ok-read_signatures.ensures.reads (nil_from_length _ none)) in
    let definitions = definitions_right g.read _ _ _ (right_now g.read _ _ _ _ _ _ c.in_ok-read_definitions.ensures.reads (nil_from_length _ none_then)) in
    in_converters signatures definitions (first_of_group g.read _ _ _ _ _ _ c.in_ok-read_converters.ensures.reads (search rules)) (all_new _ _ _ _ (nil_from_length _ none_then) c.in_ok-read_converters.ensures.told)

pub returns-then-not-is_empty-4-clause-told : goal.returns-then-not-is_empty-4-clause-told
returns-then-not-is_empty-4-clause-told g c =
    let none : length c.read_signatures.new.errors.items ≡ 0 = search rules in
    let none_then : length c.read_definitions.new.errors.items ≡ 0 = search rules in
    let none_left : length c.read_converters.new.errors.items ≡ 0 = search rules in
    let signatures = signatures_right g.read _ _ _ (right_now g.read _ _ _ _ _ _ c.in_ok-read_signatures.ensures.reads (nil_from_length _ none)) in
    let definitions = definitions_right g.read _ _ _ (right_now g.read _ _ _ _ _ _ c.in_ok-read_definitions.ensures.reads (nil_from_length _ none_then)) in
    let converters = converters_right g.read _ _ _ (right_now g.read _ _ _ _ _ _ c.in_ok-read_converters.ensures.reads (nil_from_length _ none_left)) in
    in_externs signatures definitions converters (first_of_group g.read _ _ _ _ _ _ c.in_ok-read_externs.ensures.reads (search rules))
