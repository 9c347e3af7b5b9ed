-- A program after its names, types, terms and rules are known, and what its terms are.
use Rattle.std.specs.Prelude.{ℕ, Bool, true, false, not, ◌&&◌, List, [], Option, Some, None, slice_get, suc, ◌∷◌}
use Rattle.std.specs.Bool.{◌==◌}
use Rattle.std.specs.List.{filter, list_any}
use Rattle.model.specs.lists.Tables.{TypeEntry, TermEntry, Flags, variant_term, struct_term, declared_term, ExtractorEntry, internal_extractor, external_extractor}
use Rattle.model.specs.rules.Typed.{TypedRule}

-- types by id, the types of named constants by the number of the name, terms by id, rules by id
pub record Program : Type 0 where
  pub types : List TypeEntry
  pub constants : List (ℕ × ℕ)
  pub terms : List TermEntry
  pub rules : List TypedRule

-- what a term is to a pattern or an expression
pub data Kind : Type 0 where
  a_variant : (ty variant : ℕ) → Kind
  a_struct : (ty : ℕ) → Kind
  -- a declared term, with its flags, and whether its extractor always answers
  a_call : (flags : Flags) (infallible : Bool) → Kind
  -- no term of the program
  unknown : Kind

-- an external extractor that is declared so always answers; an internal one that wasn't expanded may not
abbrev pub always_answers : Flags → Option ExtractorEntry → Bool
always_answers flags (Some (external_extractor name infallible at)) = infallible && not flags.multi
always_answers flags (Some (internal_extractor template)) = false
always_answers flags None = false

abbrev pub kind_of : TermEntry → Kind
kind_of t = elim t.kind [
  | variant_term variant ↦ a_variant t.ret_ty variant
  | struct_term ↦ a_struct t.ret_ty
  | declared_term flags constructor_kind extractor_kind ↦ a_call flags (always_answers flags extractor_kind)
]

abbrev pub kind : Program → ℕ → Kind
kind p t = elim (slice_get p.terms t) [ None ↦ unknown | Some e ↦ kind_of e ]

abbrev pub flags_of : Kind → Flags
flags_of (a_call flags infallible) = flags
flags_of _ = record { pure = true; multi = false; partial = false; rec = false }

abbrev pub is_multi : Program → ℕ → Bool
is_multi p t = (flags_of (kind p t)).multi

abbrev pub is_partial : Program → ℕ → Bool
is_partial p t = (flags_of (kind p t)).partial

abbrev pub is_pure : Program → ℕ → Bool
is_pure p t = (flags_of (kind p t)).pure

abbrev pub arg_types : Program → ℕ → List ℕ
arg_types p t = elim (slice_get p.terms t) [ None ↦ [] | Some e ↦ e.arg_tys ]

-- the rules of a term, in rule order
abbrev pub rules_of : Program → ℕ → List TypedRule
rules_of p t = filter (λ r. r.root_term == t) p.rules

-- the terms with rules, ascending
abbrev pub numbers_from : {X : Type 0} → ℕ → List X → List ℕ
numbers_from n [] = []
numbers_from n (x ∷ xs) = n ∷ numbers_from (suc n) xs

abbrev pub terms_with_rules : Program → List ℕ
terms_with_rules p = filter (λ t. list_any (λ r. r.root_term == t) p.rules) (numbers_from 0 p.terms)
