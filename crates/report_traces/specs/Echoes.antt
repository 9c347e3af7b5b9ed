-- What echoes answer: functions of what is called that a person works out by hand.
use Rattle.std.specs.Prelude.{ℕ, ℤ, pos, neg_ℤ, ◌+ℤ◌, ◌^◌, Bool, true, false, not, List, [], ◌∷◌, Option, Some, None, slice_get}
use Rattle.cranelift_isle.specs.Tables.{TermEntry}
use Rattle.cranelift_isle.specs.Values.{Value, truth, atom, Values, no_value, value_and}
use Rattle.cranelift_isle.specs.Meaning.{Content, one, parts, nothing, just, many, no_content, content_and, Literal, bool_literal, int_literal, TotalMeaning}
use Rattle.cranelift_isle.specs.Program.{Kind, a_call, kind_of}

-- a literal is the value that it writes
abbrev pub as_written : Literal → Value
as_written (bool_literal b ty) = truth b
as_written (int_literal z ty) = atom ty z

-- the number that stands for a named constant, among the least ones
abbrev pub constant_number : ℕ → ℤ
constant_number name = neg_ℤ (pos (2 ^ 127)) +ℤ pos name

-- a named constant is a value of its type, told by its name
abbrev pub named_value : Option ℕ → ℕ → Value
named_value None name = atom 0 (constant_number name)
named_value (Some ty) name = atom ty (constant_number name)

-- the form of an answer: twice from a multi term, one that is there from a term that may give none
abbrev pub in_form : Bool → Bool → Content → Content
in_form true optional c = many (content_and c (content_and c no_content))
in_form false true c = just c
in_form false false c = c

-- a value for each of some types
abbrev pub for_each_type : List ℕ → Value → Values
for_each_type [] v = no_value
for_each_type (ty ∷ tys) v = value_and v (for_each_type tys v)

-- a value as each output of an extractor: one stands alone, none or several stand together
abbrev pub outputs_of : List ℕ → Value → Content
outputs_of (ty ∷ []) v = one v
outputs_of tys v = parts (for_each_type tys v)

-- an extractor gives what it is called on
abbrev pub extracted_by : Kind → List ℕ → Value → Content
extracted_by (a_call flags infallible) tys v = in_form flags.multi (not infallible) (outputs_of tys v)
extracted_by _ tys v = nothing

abbrev pub extracted_echo : Option TermEntry → Value → Content
extracted_echo None v = nothing
extracted_echo (Some e) v = extracted_by (kind_of e) e.arg_tys v

-- a constructor gives a value
abbrev pub given_by : Kind → Value → Content
given_by (a_call flags infallible) v = in_form flags.multi flags.partial (one v)
given_by _ v = nothing

-- the first of several values, or 0 of a type where there is none
abbrev pub first_or_zero : ℕ → Values → Value
first_or_zero ty no_value = atom ty (pos 0)
first_or_zero ty (value_and v vs) = v

-- a pure constructor gives its first argument
abbrev pub pure_echo : Option TermEntry → Values → Content
pure_echo None vs = nothing
pure_echo (Some e) vs = given_by (kind_of e) (first_or_zero e.ret_ty vs)

-- an impure constructor gives how many impure calls were made before
abbrev pub impure_echo : Option TermEntry → ℕ → Content
impure_echo None before = nothing
impure_echo (Some e) before = given_by (kind_of e) (atom e.ret_ty (pos before))

-- what echoes answer, by the types of the named constants and the terms
abbrev pub echoes : (ℕ → Option ℕ) → List TermEntry → TotalMeaning
echoes constant_types terms = record {
  literals = as_written;
  constants = λ name. named_value (constant_types name) name;
  extractors = λ t v. extracted_echo (slice_get terms t) v;
  pures = λ t vs. pure_echo (slice_get terms t) vs;
  impures = λ t before. impure_echo (slice_get terms t) before;
}
