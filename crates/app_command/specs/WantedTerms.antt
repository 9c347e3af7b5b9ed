-- Which terms' trees are wanted, by the names that are asked for.
use Rattle.std.specs.Prelude.{ℕ, ◌==◌, Bool, true, List, [], Option, Some, None, not, slice_get}
use Rattle.std.specs.List.{filter, find, list_any, slice_split}
use Rattle.std.specs.Str.{bytes_eq}
use Rattle.core_terms.specs.declared.term.Term.{Term}
use Rattle.core_types.specs.Envs.{names_of}
use Rattle.cranelift_isle.specs.declared.lower.Lowered.{Lowered}
use Rattle.cranelift_isle.specs.declared.lower.LoweredTerm.{LoweredTerm}
use Rattle.model.specs.lists.Signatures.{text_of}

-- the name of a term, which the tables have
abbrev pub name_of_entry : List (List ℕ) → Option Term → List ℕ
name_of_entry names None = []
name_of_entry names (Some t) = text_of names t.name.0

abbrev pub name_of : Lowered → LoweredTerm → List ℕ
name_of l t = name_of_entry (names_of l.tyenv) (slice_get l.termenv.terms.items t.id.0)

-- the names in a text, with commas (44) between them
abbrev pub names_in : List ℕ → List (List ℕ)
names_in text = slice_split (λ b. b == 44) text

-- a name is asked for where it is among those that are, or where none are named
abbrev pub is_asked : Option (List ℕ) → List ℕ → Bool
is_asked None name = true
is_asked (Some text) name = list_any (λ other. bytes_eq other name) (names_in text)

-- the terms with rules whose names are asked for, in their order
abbrev pub wanted_terms : Option (List ℕ) → Lowered → List LoweredTerm
wanted_terms asked l = filter (λ t. is_asked asked (name_of l t)) l.terms.items

-- whether a term with rules has a name
abbrev pub has_term : Lowered → List ℕ → Bool
has_term l name = list_any (λ t. bytes_eq (name_of l t) name) l.terms.items

-- the first name that is asked for and that no term with rules has
abbrev pub missing_name : Option (List ℕ) → Lowered → Option (List ℕ)
missing_name None l = None
missing_name (Some text) l = find (λ name. not (has_term l name)) (names_in text)
