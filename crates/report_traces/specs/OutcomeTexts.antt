-- The line that tells an outcome: how the run ended, its results, and its impure calls.
use Rattle.std.specs.Prelude.{ℕ, ℤ, pos, negsuc, ◌-ℤ◌, ◌^◌, Bool, true, false, if◌then◌else◌, ◌==◌, nat_lt, List, [], ◌∷◌, ◌++◌, Option, Some, None, slice_get, unwrap_or, codes}
use Rattle.std.specs.Fmt.{signed_decimal}
use Rattle.cranelift_isle.specs.declared.lower.Lowered.{Lowered}
use Rattle.cranelift_isle.specs.Envs.{constant_at, names_of}
use Rattle.cranelift_isle.specs.Tables.{TypeEntry, enum_type}
use Rattle.cranelift_isle.specs.TermViews.{term_views}
use Rattle.cranelift_isle.specs.TypeViews.{type_views}
use Rattle.model.specs.rules.Meaning.{Content, one, parts, nothing, just, many, Contents, no_content, content_and}
use Rattle.model.specs.rules.Outcome.{Call, Ending, ended, failed, ran_through, stuck, Outcome, then_option}
use Rattle.model.specs.rules.Values.{Value, truth, atom, of_variant, of_struct, Values, no_value, value_and}
use Rattle.report_queries.specs.NameTexts.{full_name_of_variant, name_of_term, name_of_type}
use Rattle.report_traces.specs.Echoes.{constant_number}

-- how terms, types, variants and the numbers of a type are written
pub record Names : Type 0 where
  pub term : ℕ → List ℕ
  pub ty : ℕ → List ℕ
  pub variant : (ty variant : ℕ) → List ℕ
  pub number : (ty : ℕ) → ℤ → List ℕ

-- a question mark stands where there is no name
abbrev pub name_or_mark : Option (List ℕ) → List ℕ
name_or_mark name = unwrap_or name (codes "?")

-- a name with values in parentheses, and a value; each of several stands behind a space
abbrev pub composed_words : List ℕ → List ℕ → List ℕ
composed_words name inside = codes "(" ++ (name ++ (inside ++ codes ")"))

abbrev mutual
  pub value_words : Names → Value → List ℕ
  value_words n (truth true) = codes "true"
  value_words n (truth false) = codes "false"
  value_words n (atom ty z) = n.number ty z
  value_words n (of_variant ty v vs) = composed_words (n.variant ty v) (values_words n vs)
  value_words n (of_struct ty vs) = composed_words (n.ty ty) (values_words n vs)

  pub values_words : Names → Values → List ℕ
  values_words n no_value = []
  values_words n (value_and v vs) = codes " " ++ (value_words n v ++ values_words n vs)

-- several in brackets, and a content; what is just there is written as what it is
abbrev pub bracketed : List ℕ → List ℕ
bracketed inside = codes "[" ++ (inside ++ codes " ]")

abbrev mutual
  pub content_words : Names → Content → List ℕ
  content_words n (one v) = value_words n v
  content_words n (parts vs) = bracketed (values_words n vs)
  content_words n nothing = codes "nothing"
  content_words n (just c) = content_words n c
  content_words n (many cs) = bracketed (contents_words n cs)

  pub contents_words : Names → Contents → List ℕ
  contents_words n no_content = []
  contents_words n (content_and c cs) = codes " " ++ (content_words n c ++ contents_words n cs)

-- how a run ended: a multi term has run through when all its results are given
abbrev pub ending_words : (multi : Bool) → Ending → List ℕ
ending_words multi ended = codes "some"
ending_words true ran_through = codes "all"
ending_words false ran_through = codes "none"
ending_words multi failed = codes "failed"
ending_words multi stuck = codes "stuck"

-- results, each behind a space
abbrev pub results_words : Names → List Content → List ℕ
results_words n [] = []
results_words n (c ∷ cs) = codes " " ++ (content_words n c ++ results_words n cs)

-- calls, each behind a space; and that they were made, where there is one
abbrev pub each_call : Names → List Call → List ℕ
each_call n [] = []
each_call n (c ∷ cs) = codes " " ++ (composed_words (n.term c.term) (values_words n c.args) ++ each_call n cs)

abbrev pub calls_words : Names → List Call → List ℕ
calls_words n [] = []
calls_words n (c ∷ cs) = codes ", calls" ++ each_call n (c ∷ cs)

abbrev pub outcome_words : Names → (multi : Bool) → Outcome → List ℕ
outcome_words n multi o = ending_words multi o.ending ++ (results_words n o.results ++ calls_words n o.calls)

-- an outcome with other calls
abbrev pub with_calls : List Call → Outcome → Outcome
with_calls calls o = record { calls = calls; results = o.results; ending = o.ending }

-- an integer as a natural number below a limit
abbrev pub natural_below : ℕ → ℤ → Option ℕ
natural_below limit (pos n) = if nat_lt n limit then Some n else None
natural_below limit (negsuc n) = None

-- the number of the name whose constant an integer may stand for. Numbers of names are of 64 bits
abbrev pub name_number : ℤ → Option ℕ
name_number z = natural_below (2 ^ 64) (z -ℤ constant_number 0)

-- something, where a type is this one
abbrev pub if_of_type : {X : Type 0} → Option ℕ → ℕ → Option X → Option X
if_of_type None ty x = None
if_of_type (Some t) ty x = if t == ty then x else None

-- the name of the constant of a type that an integer stands for
abbrev pub constant_name : List (List ℕ) → (ℕ → Option ℕ) → ℕ → ℤ → Option (List ℕ)
constant_name names constant_types ty z = then_option (name_number z) (λ k. if_of_type (constant_types k) ty (slice_get names k))

-- whether a type has opaque values: those of an extern enum that are of none of the variants that it declares
abbrev pub has_opaque_values : Option TypeEntry → Bool
has_opaque_values (Some (enum_type name id is_extern is_nodebug variants at)) = is_extern
has_opaque_values _ = false

-- a number of a type: a constant that it stands for, the opaque value of a type that has such, or a number
abbrev pub number_words : (constant : Option (List ℕ)) → (opaque : Bool) → (type_name : List ℕ) → ℤ → List ℕ
number_words (Some name) opaque type_name z = codes "$" ++ name
number_words None true type_name z = type_name ++ (codes "#" ++ signed_decimal z)
number_words None false type_name z = signed_decimal z

-- how all is written by tables of names, types, the types of the named constants, and terms
abbrev pub names_in : Lowered → Names
names_in l = record {
  term = λ t. name_or_mark (name_of_term (names_of l.tyenv) (term_views l.termenv.terms.items) t);
  ty = λ ty. name_or_mark (name_of_type (names_of l.tyenv) (type_views l.tyenv.types.items) ty);
  variant = λ ty v. name_or_mark (full_name_of_variant (names_of l.tyenv) (type_views l.tyenv.types.items) ty v);
  number = λ ty z. number_words (constant_name (names_of l.tyenv) (constant_at l.tyenv) ty z) (has_opaque_values (slice_get (type_views l.tyenv.types.items) ty))
      (name_or_mark (name_of_type (names_of l.tyenv) (type_views l.tyenv.types.items) ty)) z;
}
