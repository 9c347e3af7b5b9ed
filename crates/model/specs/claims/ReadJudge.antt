-- The judge of reading: the typed rules of a list of definitions, where it has some, by computing.
use Rattle.std.specs.Prelude.{ℕ, suc, Bool, true, ◌&&◌, nat_lt, List, [], ◌∷◌, length, Option, Some, None, if◌then◌else◌}
use Rattle.std.specs.Bool.{◌==◌}
use Rattle.std.specs.List.{list_all}
use Rattle.model.specs.lists.Syntax.{Definition}
use Rattle.model.specs.lists.Tables.{VariantEntry}
use Rattle.model.specs.lists.TermTable.{rule_trees, term_names_met}
use Rattle.model.specs.lists.KnownJudge.{are_well_formed}
use Rattle.model.specs.lists.ListJudge.{has_valid_types, has_valid_terms, all_defined}
use Rattle.model.specs.lists.Elaborated.{TypedRules, rule_names, elaborated_rules}
use Rattle.model.specs.trees.Best.{are_distinct}
use Rattle.model.specs.claims.Environments.{TypesRead, types_read, variants_in, setting_of}

-- whether the ids that variants say count up from this one
abbrev pub variants_at_ids : ℕ → List VariantEntry → Bool
variants_at_ids n [] = true
variants_at_ids n (v ∷ vs) = (v.id == n) && variants_at_ids (suc n) vs

-- whether rules can be read with these types
abbrev pub are_readable : TypesRead → Bool
are_readable e =
    are_well_formed e.known
    && list_all (λ t. variants_at_ids 0 (variants_in t)) e.known.types
    && list_all (λ c. nat_lt c.0 (length e.known.names)) e.constants
    && list_all (λ c. nat_lt c.1 (length e.known.types)) e.constants

-- typed rules of which no two have one name
abbrev pub named_apart : Option TypedRules → Option TypedRules
named_apart None = None
named_apart (Some l) = if are_distinct (rule_names l.rules) then Some l else None

-- the typed rules of a list that is read with these types, where they can be read, its terms are valid and defined, and
-- each rule has a typed rule
abbrev pub elaborated_list : TypesRead → List Definition → Bool → Option TypedRules
elaborated_list e defs expand =
    if are_readable e && has_valid_terms e.known defs && all_defined defs
    then named_apart (elaborated_rules (setting_of e defs expand) (rule_trees defs) (term_names_met e.known defs))
    else None

-- the typed rules of a list that is read with its own types, where these are valid too
abbrev pub read_list : List Definition → Bool → Option TypedRules
read_list defs expand = if has_valid_types defs then elaborated_list (types_read defs) defs expand else None
