-- No mistake of definitions is that a list or a comment isn't ended.
use Rattle.std.proofs.Common.{◌≡◌, Bool, codes, arith}
use Rattle.std.specs.Prelude.{Option, Some, None, Result, if◌then◌else◌}
use Rattle.std.proofs.lemmas.Grind.{common_steps}
use Rattle.model.specs.lists.Syntax.{Position, Name, PatternTree}
use Rattle.text_reader.specs.declared.errors.Mistake.{Mistake}
use Rattle.text_reader.specs.declared.errors.Mistake.TheVariants as M
use Rattle.text_reader.specs.Lexemes.{Wrong, ◌>>=◌}
use Rattle.text_reader.specs.FormTrees.{FormTree, a_word, a_number, a_constant, a_binding, a_list, FormTrees, no_form, form_and}
use Rattle.text_reader.specs.Grammar.{Listed, listed, name_of, each_of, list_of, next_of, next_in, next_name_of, head_of, word_at, headed_in, headed_of, ended, reads}
use Rattle.text_reader.specs.TypeGrammar.{named_field_of, named_fields_of, with_names_of, with_numbers_of, fields_of, with_fields_of, variant_of, type_value_of, type_definition_of}
use Rattle.text_reader.specs.PatternGrammar.{numbered, macro_arg_of, pattern_of, arguments_of, patterns_of}
use Rattle.text_reader.specs.ExprGrammar.{expr_of, expr_arguments_of, exprs_of, let_of, lets_of, lets_in, let_definition_of, defined_in}
use Rattle.text_reader.specs.TermGrammar.{FlagSet, no_flags, once_of, with_word, with_flag_of, flags_of, declared_of, extractor_of, conversion_of, external_constructor_of, external_extractor_of, constant_of, external_constant_of, external_by, external_of}
use Rattle.text_reader.specs.RuleGrammar.{condition_of, statement_of, prioritized_in, parted_of, rule_of}
use Rattle.text_reader.specs.Definitions.{definition_of, definitions_of}
use Rattle.text_reader.proofs.Mistakes.{Never, IsMissingEnd, never_next, never_if}

-- another mistake than that a comment isn't ended
abbrev Other : Mistake → Type 0
Other m = m ≡ M.CommentEnd → ⊥

abbrev Fine : {A : Type 0} → Result A Wrong → Type 0
Fine r = Never IsMissingEnd r

seq : {A B : Type 0} (r : Result A Wrong) (f : A → Result B Wrong) → Fine r → ((x : A) → Fine (f x)) → Fine (r >>= f)
seq r f h k = never_next IsMissingEnd r f h k

either : {A : Type 0} (b : Bool) (x y : Result A Wrong) → Fine x → Fine y → Fine (if b then x else y)
either b x y h k = never_if IsMissingEnd b x y h k

name_fine : (f : FormTree) → Fine (name_of f)
name_fine f = grind (arith, common_steps)

each_fine : {A : Type 0} (one : FormTree → Result A Wrong) → ((f : FormTree) → Fine (one f)) → (fs : FormTrees) → Fine (each_of one fs)
each_fine one h no_form = tt
each_fine one h (form_and f fs) = seq (one f) _ (h f) (λ x. seq (each_of one fs) _ (each_fine one h fs) (λ xs. tt))

list_fine : (m : Mistake) (f : FormTree) → Other m → Fine (list_of m f)
list_fine m f h = grind (arith, common_steps)

next_in_fine : (m : Mistake) (fs : FormTrees) (p e : Position) → Other m → Fine (next_in m fs p e)
next_in_fine m fs p e h = grind (arith, common_steps)

next_fine : (m : Mistake) (l : Listed) → Other m → Fine (next_of m l)
next_fine m l h = next_in_fine m l.parts l.at l.ends h

next_name_fine : (l : Listed) → Fine (next_name_of l)
next_name_fine l = seq (next_of M.Name l) _ (next_fine M.Name l (λ e. cc e)) (λ p. seq (name_of p.0) _ (name_fine p.0) (λ n. tt))

head_fine : (fs : FormTrees) (e : Position) → Fine (head_of fs e)
head_fine fs e = grind (arith, common_steps)

word_fine : (m : Mistake) (p : Position) (f : FormTree) → Other m → Fine (word_at m p f)
word_fine m p f h = grind (arith, common_steps)

headed_in_fine : (m : Mistake) (fs : FormTrees) (p e : Position) → Other m → Fine (headed_in m fs p e)
headed_in_fine m fs p e h = grind (arith, common_steps, word_fine)

headed_fine : (m : Mistake) (f : FormTree) → Other m → Fine (headed_of m f)
headed_fine m f h = seq (list_of m f) _ (list_fine m f h) (λ l. headed_in_fine m l.parts l.at l.ends h)

ended_fine : (fs : FormTrees) → Fine (ended fs)
ended_fine fs = grind (arith, common_steps)

-- ---- types

field_fine : (f : FormTree) → Fine (named_field_of f)
field_fine f = grind (arith, common_steps, seq, list_fine, next_name_fine, ended_fine)

names_fine : (fs : FormTrees) → Fine (each_of name_of fs)
names_fine fs = each_fine name_of name_fine fs

with_names_fine : (fs : FormTrees) → Fine (with_names_of fs)
with_names_fine fs = seq (named_fields_of fs) _ (each_fine named_field_of field_fine fs) (λ x. tt)

with_numbers_fine : (fs : FormTrees) → Fine (with_numbers_of fs)
with_numbers_fine fs = seq (each_of name_of fs) _ (names_fine fs) (λ x. tt)

fields_fine : (fs : FormTrees) → Fine (fields_of fs)
fields_fine no_form = tt
fields_fine (form_and (a_list fs p e) rest) = with_names_fine (form_and (a_list fs p e) rest)
fields_fine (form_and (a_word n) rest) = with_numbers_fine (form_and (a_word n) rest)
fields_fine (form_and (a_number z p) rest) = with_numbers_fine (form_and (a_number z p) rest)
fields_fine (form_and (a_constant n p) rest) = with_numbers_fine (form_and (a_constant n p) rest)
fields_fine (form_and (a_binding n f) rest) = with_numbers_fine (form_and (a_binding n f) rest)

with_fields_fine : (f : FormTree) → Fine (with_fields_of f)
with_fields_fine f = grind (arith, common_steps, seq, list_fine, next_name_fine, fields_fine)

variant_fine : (f : FormTree) → Fine (variant_of f)
variant_fine (a_word n) = tt
variant_fine (a_number z p) = with_fields_fine (a_number z p)
variant_fine (a_constant n p) = with_fields_fine (a_constant n p)
variant_fine (a_binding n f) = with_fields_fine (a_binding n f)
variant_fine (a_list fs p e) = with_fields_fine (a_list fs p e)

type_value_fine : (f : FormTree) → Fine (type_value_of f)
type_value_fine f =
    seq (headed_of M.TypeValue f) _ (headed_fine M.TypeValue f (λ e. cc e)) (λ h.
    either (reads h.0 (codes "primitive")) _ _ (seq (next_name_of h.1) _ (next_name_fine h.1) (λ name. seq (ended name.1.parts) _ (ended_fine name.1.parts) (λ u. tt)))
    (grind (arith, common_steps, either, seq, each_fine variant_of variant_fine, fields_fine)))

type_fine : (l : Listed) → Fine (type_definition_of l)
type_fine l = grind (arith, common_steps, seq, next_name_fine, next_fine, type_value_fine, ended_fine)

-- ---- patterns

numbered_fine : (f : FormTree) (place : Position) → Fine (numbered f place)
numbered_fine f place = grind (arith, common_steps)

macro_arg_fine : (l : Listed) → Fine (macro_arg_of l)
macro_arg_fine l = grind (arith, common_steps, seq, next_fine, ended_fine, numbered_fine)

mutual
  pattern_fine : (f : FormTree) → Fine (pattern_of f)
  pattern_fine (a_binding n f) = seq (pattern_of f) _ (pattern_fine f) (λ q. tt)
  pattern_fine (a_list fs p e) =
      seq (head_of fs e) _ (head_fine fs e) (λ head. seq (arguments_of fs) _ (arguments_fine fs) (λ args.
      either (reads head (codes "macro-arg")) _ _ (macro_arg_fine (listed fs p e)) tt))
  pattern_fine _ = tt

  arguments_fine : (fs : FormTrees) → Fine (arguments_of fs)
  arguments_fine no_form = tt
  arguments_fine (form_and f fs) = patterns_fine fs

  patterns_fine : (fs : FormTrees) → Fine (patterns_of fs)
  patterns_fine no_form = tt
  patterns_fine (form_and f fs) = seq (pattern_of f) _ (pattern_fine f) (λ q. seq (patterns_of fs) _ (patterns_fine fs) (λ qs. tt))

-- ---- expressions

mutual
  expr_fine : (f : FormTree) → Fine (expr_of f)
  expr_fine (a_list fs p e) =
      seq (head_of fs e) _ (head_fine fs e) (λ head. either (reads head (codes "let")) _ _ (let_fine fs p e)
      (seq (expr_arguments_of fs) _ (expr_arguments_fine fs) (λ args. tt)))
  expr_fine f = grind (arith, common_steps)

  expr_arguments_fine : (fs : FormTrees) → Fine (expr_arguments_of fs)
  expr_arguments_fine no_form = tt
  expr_arguments_fine (form_and f fs) = exprs_fine fs

  exprs_fine : (fs : FormTrees) → Fine (exprs_of fs)
  exprs_fine no_form = tt
  exprs_fine (form_and f fs) = seq (expr_of f) _ (expr_fine f) (λ x. seq (exprs_of fs) _ (exprs_fine fs) (λ xs. tt))

  let_fine : (fs : FormTrees) (p e : Position) → Fine (let_of fs p e)
  let_fine (form_and h (form_and ds (form_and body no_form))) p e = seq (lets_of ds) _ (lets_fine ds) (λ defs. seq (expr_of body) _ (expr_fine body) (λ x. tt))
  let_fine _ p e = λ x. cc x

  lets_fine : (f : FormTree) → Fine (lets_of f)
  lets_fine (a_list fs p e) = lets_in_fine fs
  lets_fine _ = λ e. cc e

  lets_in_fine : (fs : FormTrees) → Fine (lets_in fs)
  lets_in_fine no_form = tt
  lets_in_fine (form_and f fs) = seq (let_definition_of f) _ (let_definition_fine f) (λ d. seq (lets_in fs) _ (lets_in_fine fs) (λ ds. tt))

  let_definition_fine : (f : FormTree) → Fine (let_definition_of f)
  let_definition_fine (a_list fs p e) = defined_fine fs p
  let_definition_fine _ = λ e. cc e

  defined_fine : (fs : FormTrees) (p : Position) → Fine (defined_in fs p)
  defined_fine (form_and v (form_and t (form_and x no_form))) p = seq (name_of v) _ (name_fine v) (λ var. seq (name_of t) _ (name_fine t) (λ ty. seq (expr_of x) _ (expr_fine x) (λ val. tt)))
  defined_fine (form_and v (form_and t (form_and x (form_and more fs)))) p = λ y. cc y
  defined_fine _ p = λ x. cc x

-- ---- terms

once_fine : (was : Bool) (p : Position) (flags : FlagSet) → Fine (once_of was p flags)
once_fine was p flags = either was _ _ (λ e. cc e) tt

flag_word_fine : (flags : FlagSet) (n : Name) → Fine (with_word flags n)
flag_word_fine flags n = grind (arith, common_steps, either, once_fine)

flag_fine : (flags : FlagSet) (f : FormTree) → Fine (with_flag_of flags f)
flag_fine flags f = grind (arith, common_steps, flag_word_fine)

flags_fine : (flags : FlagSet) (fs : FormTrees) → Fine (flags_of flags fs)
flags_fine flags no_form = tt
flags_fine flags (form_and f fs) = seq (with_flag_of flags f) _ (flag_fine flags f) (λ more. flags_fine more fs)

declared_fine : (p : Position) (r : Option (FormTrees × FormTree × FormTree × FormTree)) → Fine (declared_of p r)
declared_fine p None = λ e. cc e
declared_fine p (Some s) =
    seq (flags_of no_flags s.0) _ (flags_fine no_flags s.0) (λ flags. seq (list_of M.Names s.2) _ (list_fine M.Names s.2 (λ e. cc e)) (λ args. seq (name_of s.1) _ (name_fine s.1) (λ term.
    seq (each_of name_of args.parts) _ (names_fine args.parts) (λ arg_tys. seq (name_of s.3) _ (name_fine s.3) (λ ret_ty. tt)))))

extractor_fine : (l : Listed) → Fine (extractor_of l)
extractor_fine l =
    seq (next_of M.Names l) _ (next_fine M.Names l (λ e. cc e)) (λ use_of. seq (list_of M.Names use_of.0) _ (list_fine M.Names use_of.0 (λ e. cc e)) (λ used. seq (next_name_of used) _ (next_name_fine used) (λ term.
    seq (next_of M.Pattern use_of.1) _ (next_fine M.Pattern use_of.1 (λ e. cc e)) (λ template. grind (arith, seq, names_fine, pattern_fine, ended_fine)))))

conversion_fine : (l : Listed) → Fine (conversion_of l)
conversion_fine l = grind (arith, common_steps, seq, next_name_fine, ended_fine)

constructor_fine : (l : Listed) → Fine (external_constructor_of l)
constructor_fine l = grind (arith, common_steps, seq, next_name_fine, ended_fine)

external_extractor_fine : (l : Listed) → Fine (external_extractor_of l)
external_extractor_fine l = grind (arith, common_steps, seq, next_name_fine, ended_fine)

constant_fine : (f : FormTree) → Fine (constant_of f)
constant_fine f = grind (arith, common_steps)

external_constant_fine : (l : Listed) → Fine (external_constant_of l)
external_constant_fine l = grind (arith, common_steps, seq, next_fine, constant_fine, next_name_fine, ended_fine)

external_by_fine : (f : FormTree) (l : Listed) → Fine (external_by f l)
external_by_fine f l = grind (arith, common_steps, either, constructor_fine, external_extractor_fine, external_constant_fine)

external_fine : (l : Listed) → Fine (external_of l)
external_fine l = seq (next_of M.Extern l) _ (next_fine M.Extern l (λ e. cc e)) (λ kind. external_by_fine kind.0 kind.1)

-- ---- rules

condition_fine : (q : PatternTree) (l : Listed) → Fine (condition_of q l)
condition_fine q l = grind (arith, common_steps, seq, next_fine, expr_fine, ended_fine)

statement_fine : (f : FormTree) → Fine (statement_of f)
statement_fine f = grind (arith, common_steps, seq, headed_fine, either, next_fine, pattern_fine, condition_fine)

priority_in_fine : (fs : FormTrees) (p e : Position) → Fine (prioritized_in fs p e)
priority_in_fine fs p e = grind (arith, common_steps)

parted_fine : (e : Position) (fs : FormTrees) → Fine (parted_of e fs)
parted_fine e no_form = λ x. cc x
parted_fine e (form_and f no_form) = tt
parted_fine e (form_and f (form_and g gs)) = seq (parted_of e (form_and g gs)) _ (parted_fine e (form_and g gs)) (λ s. tt)

rule_fine : (l : Listed) → Fine (rule_of l)
rule_fine l = grind (arith, seq, priority_in_fine, next_fine M.Pattern, parted_fine l.ends, pattern_fine, each_fine statement_of statement_fine, expr_fine)

-- ---- definitions

definition_fine : (f : FormTree) → Fine (definition_of f)
definition_fine f = grind (arith, common_steps, seq, headed_fine, either, type_fine, declared_fine, rule_fine, extractor_fine, external_fine, conversion_fine)

pub definitions_fine : (fs : FormTrees) → Fine (definitions_of fs)
definitions_fine fs = each_fine definition_of definition_fine fs
