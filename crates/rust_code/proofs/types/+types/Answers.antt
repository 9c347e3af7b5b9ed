use Rattle.std.proofs.Common.{◌∙◌, slice_get, sym, ap}
use Rattle.model.specs.rules.Values.{struct_types, variant_types}
use Rattle.model_code.specs.SiteTypes.{field_type, one_type}
use Rattle.rust_code.specs.SeenTypes.{program_in}
use Rattle.rust_code.proofs.TypesFound.{types_seen}
use Rattle.rust_code.proofs.types.+types.Goals as goal

pub types_of-returns-in-ConstBool : goal.types_of-returns-in-ConstBool
types_of-returns-in-ConstBool t c = λ constants rules are.
    let tables = c.args.tables.now in
    let p = program_in tables constants rules in
    ap (types_seen tables p c.args.layers) (sym c.in-ConstBool.is)

pub types_of-returns-in-ConstInt : goal.types_of-returns-in-ConstInt
types_of-returns-in-ConstInt t c = λ constants rules are.
    let tables = c.args.tables.now in
    let p = program_in tables constants rules in
    ap (types_seen tables p c.args.layers) (sym c.in-ConstInt.is)

pub types_of-returns-in-ConstPrim : goal.types_of-returns-in-ConstPrim
types_of-returns-in-ConstPrim t c = λ constants rules are.
    let tables = c.args.tables.now in
    let p = program_in tables constants rules in
    c.constant_of.ensures tables.terms.now ∙ ap one_type (sym (are c.in-ConstPrim.val.0)) ∙ ap (types_seen tables p c.args.layers) (sym c.in-ConstPrim.is)

pub types_of-returns-in-Argument : goal.types_of-returns-in-Argument
types_of-returns-in-Argument t c = λ constants rules are.
    let tables = c.args.tables.now in
    let p = program_in tables constants rules in
    c.argument_of.ensures ∙ ap (types_seen tables p c.args.layers) (sym c.in-Argument.is)

pub types_of-returns-in-Extractor : goal.types_of-returns-in-Extractor
types_of-returns-in-Extractor t c = λ constants rules are.
    let tables = c.args.tables.now in
    let p = program_in tables constants rules in
    ap (types_seen tables p c.args.layers) (sym c.in-Extractor.is)

pub types_of-returns-in-Constructor : goal.types_of-returns-in-Constructor
types_of-returns-in-Constructor t c = λ constants rules are.
    let tables = c.args.tables.now in
    let p = program_in tables constants rules in
    c.result_of.ensures ∙ ap (types_seen tables p c.args.layers) (sym c.in-Constructor.is)

pub types_of-returns-in-Iterator : goal.types_of-returns-in-Iterator
types_of-returns-in-Iterator t c = λ constants rules are.
    let tables = c.args.tables.now in
    let p = program_in tables constants rules in
    c.types_within.ensures constants rules are ∙ ap (types_seen tables p c.args.layers) (sym c.in-Iterator.is)

pub types_of-returns-in-MakeVariant : goal.types_of-returns-in-MakeVariant
types_of-returns-in-MakeVariant t c = λ constants rules are.
    let tables = c.args.tables.now in
    let p = program_in tables constants rules in
    ap (types_seen tables p c.args.layers) (sym c.in-MakeVariant.is)

pub types_of-returns-in-MatchVariant : goal.types_of-returns-in-MatchVariant
types_of-returns-in-MatchVariant t c = λ constants rules are.
    let tables = c.args.tables.now in
    let p = program_in tables constants rules in
    c.variant_field.ensures ∙ ap (λ tys. field_type (λ ty. variant_types (slice_get p.types ty) c.in-MatchVariant.variant.0) tys c.in-MatchVariant.field) (c.types_within-types.ensures constants rules are) ∙ ap (types_seen tables p c.args.layers) (sym c.in-MatchVariant.is)

pub types_of-returns-in-MakeStruct : goal.types_of-returns-in-MakeStruct
types_of-returns-in-MakeStruct t c = λ constants rules are.
    let tables = c.args.tables.now in
    let p = program_in tables constants rules in
    ap (types_seen tables p c.args.layers) (sym c.in-MakeStruct.is)

pub types_of-returns-in-ExtractStruct : goal.types_of-returns-in-ExtractStruct
types_of-returns-in-ExtractStruct t c = λ constants rules are.
    let tables = c.args.tables.now in
    let p = program_in tables constants rules in
    c.struct_field.ensures ∙ ap (λ tys. field_type (λ ty. struct_types (slice_get p.types ty)) tys c.in-ExtractStruct.field) (c.types_within-types-in-ExtractStruct.ensures constants rules are) ∙ ap (types_seen tables p c.args.layers) (sym c.in-ExtractStruct.is)

pub types_of-returns-in-MakeSome : goal.types_of-returns-in-MakeSome
types_of-returns-in-MakeSome t c = λ constants rules are.
    let tables = c.args.tables.now in
    let p = program_in tables constants rules in
    c.types_within-in-MakeSome.ensures constants rules are ∙ ap (types_seen tables p c.args.layers) (sym c.in-MakeSome.is)

pub types_of-returns-in-MatchSome : goal.types_of-returns-in-MatchSome
types_of-returns-in-MatchSome t c = λ constants rules are.
    let tables = c.args.tables.now in
    let p = program_in tables constants rules in
    c.types_within-in-MatchSome.ensures constants rules are ∙ ap (types_seen tables p c.args.layers) (sym c.in-MatchSome.is)

pub types_of-returns-in-MatchTuple : goal.types_of-returns-in-MatchTuple
types_of-returns-in-MatchTuple t c = λ constants rules are.
    let tables = c.args.tables.now in
    let p = program_in tables constants rules in
    c.part_of.ensures ∙ ap (λ tys. one_type (slice_get tys c.in-MatchTuple.field)) (c.types_within-types-in-MatchTuple.ensures constants rules are) ∙ ap (types_seen tables p c.args.layers) (sym c.in-MatchTuple.is)
