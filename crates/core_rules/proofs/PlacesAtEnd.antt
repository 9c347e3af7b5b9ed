-- Where the errors stand that are found while the rules of a list are read, by the types that it is read with.
use Rattle.std.proofs.Common.{◌≡◌, All, List, [], ◌++◌, sym, ap, subst, ◌∙◌}
use Rattle.model.specs.lists.Syntax.{Definition}
use Rattle.model.specs.lists.Tables.{TypeEntry}
use Rattle.model.specs.lists.TermTable.{term_table}
use Rattle.model.specs.claims.Environments.{TypesRead, TypeEnvironment, AreTermsOf}
use Rattle.core_syntax.specs.declared.syntax.Error.{Error}
use Rattle.core_syntax.specs.Positions.{ErrorStandsAt, NotesAt, OccurAmong, positions_of}
use Rattle.core_syntax.proofs.Positioned.{among_left, notes_among, all_stand, among_join}
use Rattle.core_terms.specs.declared.term_table.TermTable.{TermTable}
use Rattle.core_terms.specs.TermViews.{term_views}
use Rattle.core_terms.specs.ShownTables.{shown_by}
use Rattle.core_rules.specs.declared.term_env.TermEnv.{TermEnv}
use Rattle.core_rules.specs.ShownEnvs.{terms_shown_by}
use Rattle.core_terms.specs.TermPositions.{terms_positions}
use Rattle.core_types.specs.TypePositions.{types_positions}
use Rattle.core_rules.proofs.TermPlaces.{terms_inside}

-- at positions of the definitions and of the types, since the terms are those of the list
pub stand_in_the_end : (read : TypesRead) (defs : List Definition) (table : TermTable) (names : TypeEnvironment) → AreTermsOf read defs (shown_by table) names → (env : TermEnv) → terms_shown_by env ≡ shown_by table
    → (types : List TypeEntry) → types ≡ read.known.types → (es : List Error) → NotesAt (positions_of defs ++ terms_positions (term_views env.terms.items)) [] es → All (ErrorStandsAt (positions_of defs ++ types_positions types)) es
stand_in_the_end read defs table names terms env shows types is es noted =
    let all = positions_of defs ++ types_positions types in
    let same : term_views env.terms.items ≡ term_table read.known defs = ap (λ s. s.terms) shows ∙ terms.rows.table in
    let of_terms : OccurAmong (terms_positions (term_views env.terms.items)) all =
    subst (λ ts. OccurAmong (terms_positions ts) all) (sym same) (subst (λ ts. OccurAmong (terms_positions (term_table read.known defs)) (positions_of defs ++ types_positions ts)) (sym is) (terms_inside read.known defs)) in
    all_stand all es
    (notes_among (positions_of defs ++ terms_positions (term_views env.terms.items)) all [] es (among_join (positions_of defs) (terms_positions (term_views env.terms.items)) all (among_left (positions_of defs) (types_positions types)) of_terms) noted)
