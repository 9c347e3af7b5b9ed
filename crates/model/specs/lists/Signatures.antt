-- The signatures of the functions that stand for a term outside: names, types, and how many values they give.
use Rattle.std.specs.Prelude.{ℕ, Bool, false, List, [], ◌∷◌, ◌++◌, Option, Some, None, unwrap_or, slice_get, if◌then◌else◌, codes}
use Rattle.model.specs.lists.Tables.{Flags, ConstructorEntry, internal_constructor, external_constructor, ExtractorEntry, internal_extractor, external_extractor, variant_term, struct_term, declared_term, TermEntry}

-- how many values a function gives: one, one or none, or any number
pub data Giving : Type 0 where
  gives_one : Giving
  gives_one_or_none : Giving
  gives_any_number : Giving

-- a function's name, the name with what stands before it where it is external, the types of what it takes and of what it
-- gives, and how many values it gives
pub record Signature : Type 0 where
  pub func_name : List ℕ
  pub full_name : List ℕ
  pub param_tys : List ℕ
  pub ret_tys : List ℕ
  pub ret_kind : Giving

-- the text of a name's number
abbrev pub text_of : List (List ℕ) → ℕ → List ℕ
text_of names n = unwrap_or (slice_get names n) []

-- a function of the project: both names are the term's after such a word
abbrev pub inside : List ℕ → List ℕ → List ℕ → List ℕ → Giving → Signature
inside word name params rets kind = record { func_name = word ++ name; full_name = word ++ name; param_tys = params; ret_tys = rets; ret_kind = kind }

-- one from outside, by its own name
abbrev pub outside : List ℕ → List ℕ → List ℕ → Giving → Signature
outside name params rets kind = record { func_name = name; full_name = codes "C::" ++ name; param_tys = params; ret_tys = rets; ret_kind = kind }

-- an extractor gives any number of answers where its term is multi, always one where it is declared so, else one or none
abbrev pub extractor_gives : Flags → Bool → Giving
extractor_gives flags infallible = if flags.multi then gives_any_number else (if infallible then gives_one else gives_one_or_none)

-- a constructor likewise by its term's flags
abbrev pub constructor_gives : Flags → Giving
constructor_gives flags = if flags.multi then gives_any_number else (if flags.partial then gives_one_or_none else gives_one)

-- an extractor takes the term's result and gives its arguments
abbrev pub extractor_of : List (List ℕ) → TermEntry → Flags → Option ExtractorEntry → Option Signature
extractor_of names t flags None = None
extractor_of names t flags (Some (internal_extractor template)) = Some (inside (codes "extractor_") (text_of names t.name) (t.ret_ty ∷ []) t.arg_tys (extractor_gives flags false))
extractor_of names t flags (Some (external_extractor name infallible at)) = Some (outside (text_of names name) (t.ret_ty ∷ []) t.arg_tys (extractor_gives flags infallible))

-- a constructor goes the other way
abbrev pub constructor_of : List (List ℕ) → TermEntry → Flags → Option ConstructorEntry → Option Signature
constructor_of names t flags None = None
constructor_of names t flags (Some internal_constructor) = Some (inside (codes "constructor_") (text_of names t.name) t.arg_tys (t.ret_ty ∷ []) (constructor_gives flags))
constructor_of names t flags (Some (external_constructor name)) = Some (outside (text_of names name) t.arg_tys (t.ret_ty ∷ []) (constructor_gives flags))

-- variants and structs have none
abbrev pub extractor_signature : List (List ℕ) → TermEntry → Option Signature
extractor_signature names t = elim t.kind [
  | variant_term variant ↦ None
  | struct_term ↦ None
  | declared_term flags constructor_kind extractor_kind ↦ extractor_of names t flags extractor_kind
]

abbrev pub constructor_signature : List (List ℕ) → TermEntry → Option Signature
constructor_signature names t = elim t.kind [
  | variant_term variant ↦ None
  | struct_term ↦ None
  | declared_term flags constructor_kind extractor_kind ↦ constructor_of names t flags constructor_kind
]
