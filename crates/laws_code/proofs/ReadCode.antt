-- Code by types is written, and read back.
use Rattle.std.proofs.Common.{false, ◌∙◌, arith}
use Rattle.std.proofs.lemmas.Grind.{common_steps}
use Rattle.model.specs.rules.Program.{is_multi, arg_types}
use Rattle.model.specs.claims.Layers.{own_program}
use Rattle.laws_typing.proofs.WellTypedRules.{read_programs_are_well_typed}
use Rattle.model_code.specs.TreeCode.{tree_code}
use Rattle.model_code.specs.Flat.{flat}
use Rattle.model_code.specs.Modes.{Types, passes_of}
use Rattle.model_code.specs.SiteTypes.{types_of}
use Rattle.model_code.proofs.PrintedCode.{tree_unlabelled}
use Rattle.model_code.specs.ProgramNotation.{notation_of}
use Rattle.model_code.specs.ReadsBack.{FlatKeepsWritable, MovesKeepWritable}
use Rattle.model_code.specs.ReadTexts.{TextIsReadBack}
use Rattle.laws_code.specs.TypedTrees.{code_by_types}
use Rattle.laws_code.specs.WritableCode.{LooksAtMatched, CodeOfBuiltSetsIsWritable, CodeOfAcceptedIsWritable, TextOfAcceptedIsReadBack}

pub code_of_accepted_is_writable_lem : CodeOfBuiltSetsIsWritable → FlatKeepsWritable → MovesKeepWritable → CodeOfAcceptedIsWritable
code_of_accepted_is_writable_lem trees labels moves defs expand rules l accepted built best kind is_logged deep n =
    let p = own_program defs rules in
    let types : Types = types_of p (arg_types p l.term) l.set.sites in
    let passes = passes_of types (is_multi p l.term) l.set.sites in
    let code = tree_code l.tree l.set.sites passes in
    let notation = notation_of p kind is_logged in
    let looks : LooksAtMatched passes = λ s. (grind (arith, common_steps)) in
    moves notation false types (flat code deep n)
    ∙ labels notation code deep n (tree_unlabelled l.set.sites passes l.tree) (trees p l.term l.set (read_programs_are_well_typed accepted.read) built l.tree best passes looks kind is_logged)

pub text_of_accepted_is_read_back_lem : CodeOfAcceptedIsWritable → TextIsReadBack → TextOfAcceptedIsReadBack
text_of_accepted_is_read_back_lem can text defs expand rules l accepted built best names whole kind is_logged deep n =
    let p = own_program defs rules in
    text names (notation_of p kind is_logged) (code_by_types p l deep n) whole (can defs expand rules l accepted built best kind is_logged deep n)
