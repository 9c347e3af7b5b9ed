-- What forms are doesn't depend on where they stand: the definition of forms without their places is the definition without
-- its places.
use Rattle.std.proofs.Common.{◌≡◌, ℕ, suc, refl, ap, ◌∙◌, List, [], ◌∷◌, map, arith}
use Rattle.std.specs.Prelude.{ℤ, Bool, codes, Option, Some, None, option_map, Result, Ok, Err, if◌then◌else◌}
use Rattle.std.proofs.lemmas.Grind.{common_steps}
use Rattle.model.specs.lists.Syntax.{Position, Name, PatternTree, wildcard_pattern, ExprTree, extern_extractor, Definition, type_definition, rule_definition, extern_definition}
use Rattle.text_reader.specs.declared.errors.Mistake.{Mistake}
use Rattle.text_reader.specs.declared.errors.Mistake.TheVariants as M
use Rattle.text_reader.specs.Lexemes.{Complaint, expected, unclosed, unknown, Wrong, ◌>>=◌}
use Rattle.text_reader.specs.FormTrees.{FormTree, a_word, a_number, a_constant, a_binding, a_list, FormTrees, no_form, form_and}
use Rattle.text_reader.specs.Solid.{nowhere, placeless_name}
use Rattle.text_reader.specs.Grammar.{Listed, listed, reads, place_of, name_of, names_of, each_of, list_of, next_of, next_name_of, head_of, headed_of, next_if_of, ended, count}
use Rattle.text_reader.specs.PatternGrammar.{pattern_of, arguments_of, patterns_of}
use Rattle.text_reader.specs.ExprGrammar.{expr_of, expr_arguments_of, exprs_of, let_of, lets_of, lets_in, let_definition_of, defined_in}
use Rattle.text_reader.specs.TypeGrammar.{named_field_of, named_fields_of, numbered_from, with_names_of, fields_of, variant_of, variants_of, enumeration_of, type_value_of, type_definition_of}
use Rattle.text_reader.specs.TermGrammar.{FlagSet, no_flags, with_flag_of, flags_of, last_three, declared_of, extractor_of, infallible_of, external_extractor_of, external_by}
use Rattle.text_reader.specs.RuleGrammar.{condition_of, if_let_of, statement_of, statements_of, rule_name_of, priority_of, parted_of, rule_of}
use Rattle.text_reader.specs.Definitions.{defined_by, definition_of}
use Rattle.text_writer.specs.Placeless.{placeless_pattern, placeless_patterns, placeless_expr, placeless_exprs, placeless_lets, placeless_field, placeless_tuple_field, placeless_fields, placeless_variant, placeless_value, placeless_if_let, placeless_definition}

-- ---- forms and answers without places

abbrev mutual
  pub bare : FormTree → FormTree
  bare (a_word n) = a_word (placeless_name n)
  bare (a_number z p) = a_number z nowhere
  bare (a_constant n p) = a_constant (placeless_name n) nowhere
  bare (a_binding n f) = a_binding (placeless_name n) (bare f)
  bare (a_list fs p e) = a_list (all_bare fs) nowhere nowhere

  pub all_bare : FormTrees → FormTrees
  all_bare no_form = no_form
  all_bare (form_and f fs) = form_and (bare f) (all_bare fs)

abbrev pub bare_list : Listed → Listed
bare_list l = listed (all_bare l.parts) nowhere nowhere

abbrev pub bare_complaint : Complaint → Complaint
bare_complaint (expected m) = expected m
bare_complaint (unclosed p) = unclosed nowhere
bare_complaint (unknown w) = unknown w

abbrev pub bared : {A B : Type 0} → (A → B) → Result A Wrong → Result B Wrong
bared g (Ok x) = Ok (g x)
bared g (Err w) = Err (bare_complaint w.0, nowhere)

-- one step after another
pub both : {A B C D : Type 0} (g : A → C) (h : B → D) (r : Result A Wrong) (s : Result C Wrong) (k : A → Result B Wrong) (m : C → Result D Wrong)
    → bared g r ≡ s → ((x : A) → bared h (k x) ≡ m (g x)) → bared h (r >>= k) ≡ (s >>= m)
both g h r s k m e f = grind (arith, common_steps)

-- by a test
pub either : {A B : Type 0} (g : A → B) (c : Bool) (r s : Result A Wrong) (t u : Result B Wrong) → bared g r ≡ t → bared g s ≡ u
    → bared g (if c then r else s) ≡ (if c then t else u)
either g c r s t u e f = grind (arith, common_steps)

pub apply_if : {A B : Type 0} (g : A → B) (c : Bool) (x y : A) → g (if c then x else y) ≡ (if c then g x else g y)
apply_if g c x y = grind (arith, common_steps)

-- ---- parts of lists

pub name_bare : (f : FormTree) → bared placeless_name (name_of f) ≡ name_of (bare f)
name_bare f = grind (arith, common_steps)

pub each_bare : {A B : Type 0} (g : A → B) (one : FormTree → Result A Wrong) (other : FormTree → Result B Wrong) → ((f : FormTree) → bared g (one f) ≡ other (bare f))
    → (fs : FormTrees) → bared (map g) (each_of one fs) ≡ each_of other (all_bare fs)
each_bare g one other same no_form = refl
each_bare g one other same (form_and f fs) = grind (arith, common_steps, each_bare g one other same fs, both)

pub names_bare : (fs : FormTrees) → bared (map placeless_name) (names_of fs) ≡ names_of (all_bare fs)
names_bare fs = each_bare placeless_name name_of name_of name_bare fs

pub list_bare : (m : Mistake) (f : FormTree) → bared bare_list (list_of m f) ≡ list_of m (bare f)
list_bare m f = grind (arith, common_steps)

abbrev pub bare_next : FormTree × Listed → FormTree × Listed
bare_next s = (bare s.0, bare_list s.1)

pub next_bare : (m : Mistake) (l : Listed) → bared bare_next (next_of m l) ≡ next_of m (bare_list l)
next_bare m l = grind (arith, common_steps)

abbrev pub bare_named : Name × Listed → Name × Listed
bare_named s = (placeless_name s.0, bare_list s.1)

pub next_name_bare : (l : Listed) → bared bare_named (next_name_of l) ≡ next_name_of (bare_list l)
next_name_bare l = grind (arith, common_steps, both, next_bare, name_bare)

pub headed_bare : (m : Mistake) (f : FormTree) → bared bare_named (headed_of m f) ≡ headed_of m (bare f)
headed_bare m f = grind (arith, common_steps, both, list_bare)

abbrev pub bare_flagged : Bool × Listed → Bool × Listed
bare_flagged s = (s.0, bare_list s.1)

pub next_if_bare : (text : List ℕ) (l : Listed) → bare_flagged (next_if_of text l) ≡ next_if_of text (bare_list l)
next_if_bare text l = grind (arith, common_steps, apply_if)

pub place_bare : (f : FormTree) → place_of (bare f) ≡ nowhere
place_bare (a_word n) = refl
place_bare _ = refl

pub ended_bare : (fs : FormTrees) → bared (λ _. tt) (ended fs) ≡ ended (all_bare fs)
ended_bare fs = grind (arith, common_steps, place_bare)

count_bare : (fs : FormTrees) → count (all_bare fs) ≡ count fs
count_bare no_form = refl
count_bare (form_and f fs) = ap suc (count_bare fs)

-- ---- patterns

mutual
  pattern_bare : (f : FormTree) → bared placeless_pattern (pattern_of f) ≡ pattern_of (bare f)
  pattern_bare (a_word n) = ap Ok (grind (arith, apply_if))
  pattern_bare (a_number z p) = refl
  pattern_bare (a_constant n p) = refl
  pattern_bare (a_binding n f) = both placeless_pattern placeless_pattern (pattern_of f) (pattern_of (bare f)) _ _ (pattern_bare f) (λ q. refl)
  pattern_bare (a_list fs p e) =
      both placeless_name placeless_pattern (head_of fs e) (head_of (all_bare fs) nowhere) _ _ (grind arith) (λ head.
      both placeless_patterns placeless_pattern (arguments_of fs) (arguments_of (all_bare fs)) _ _ (arguments_bare fs) (λ args.
      grind (arith, either, apply_if)))

  arguments_bare : (fs : FormTrees) → bared placeless_patterns (arguments_of fs) ≡ arguments_of (all_bare fs)
  arguments_bare no_form = refl
  arguments_bare (form_and f fs) = patterns_bare fs

  patterns_bare : (fs : FormTrees) → bared placeless_patterns (patterns_of fs) ≡ patterns_of (all_bare fs)
  patterns_bare no_form = refl
  patterns_bare (form_and f fs) = grind (arith, common_steps, pattern_bare f, patterns_bare fs, both)

-- ---- expressions

abbrev bare_let : Name × Name × ExprTree × Position → Name × Name × ExprTree × Position
bare_let d = (placeless_name d.0, placeless_name d.1, placeless_expr d.2, nowhere)

mutual
  expr_bare : (f : FormTree) → bared placeless_expr (expr_of f) ≡ expr_of (bare f)
  expr_bare (a_list fs p e) =
      both placeless_name placeless_expr (head_of fs e) (head_of (all_bare fs) nowhere) _ _ (grind arith) (λ head.
      either placeless_expr (reads head (codes "let")) _ _ _ _ (let_bare fs p e)
      (both placeless_exprs placeless_expr (expr_arguments_of fs) (expr_arguments_of (all_bare fs)) _ _ (expr_arguments_bare fs) (λ args. refl)))
  expr_bare f = grind (arith, common_steps)

  expr_arguments_bare : (fs : FormTrees) → bared placeless_exprs (expr_arguments_of fs) ≡ expr_arguments_of (all_bare fs)
  expr_arguments_bare no_form = refl
  expr_arguments_bare (form_and f fs) = exprs_bare fs

  exprs_bare : (fs : FormTrees) → bared placeless_exprs (exprs_of fs) ≡ exprs_of (all_bare fs)
  exprs_bare no_form = refl
  exprs_bare (form_and f fs) = grind (arith, common_steps, expr_bare f, exprs_bare fs, both)

  let_bare : (fs : FormTrees) (p e : Position) → bared placeless_expr (let_of fs p e) ≡ let_of (all_bare fs) nowhere nowhere
  let_bare (form_and h (form_and ds (form_and body no_form))) p e =
      both placeless_lets placeless_expr (lets_of ds) (lets_of (bare ds)) _ _ (lets_bare ds) (λ defs. grind (arith, common_steps, expr_bare body, both))
  let_bare fs p e = grind (arith, common_steps, place_bare)

  lets_bare : (f : FormTree) → bared placeless_lets (lets_of f) ≡ lets_of (bare f)
  lets_bare (a_list fs p e) = lets_in_bare fs
  lets_bare _ = refl

  lets_in_bare : (fs : FormTrees) → bared placeless_lets (lets_in fs) ≡ lets_in (all_bare fs)
  lets_in_bare no_form = refl
  lets_in_bare (form_and f fs) = grind (arith, common_steps, let_definition_bare f, lets_in_bare fs, both)

  let_definition_bare : (f : FormTree) → bared bare_let (let_definition_of f) ≡ let_definition_of (bare f)
  let_definition_bare (a_list fs p e) = defined_bare fs p
  let_definition_bare _ = refl

  defined_bare : (fs : FormTrees) (p : Position) → bared bare_let (defined_in fs p) ≡ defined_in (all_bare fs) nowhere
  defined_bare (form_and v (form_and t (form_and x no_form))) p =
      both placeless_name bare_let (name_of v) (name_of (bare v)) _ _ (name_bare v) (λ var. grind (arith, common_steps, expr_bare x, both, name_bare))
  defined_bare _ p = refl

-- ---- types

named_field_bare : (f : FormTree) → bared placeless_field (named_field_of f) ≡ named_field_of (bare f)
named_field_bare f = grind (arith, common_steps, both, list_bare, next_name_bare, ended_bare)

with_names_bare : (fs : FormTrees) → bared placeless_fields (with_names_of fs) ≡ with_names_of (all_bare fs)
with_names_bare fs =
    both (map placeless_field) placeless_fields (named_fields_of fs) (named_fields_of (all_bare fs)) _ _
    (each_bare placeless_field named_field_of named_field_of named_field_bare fs) (λ fields. refl)

numbered_from_bare : (i : ℕ) (tys : List Name) → map placeless_tuple_field (numbered_from i tys) ≡ numbered_from i (map placeless_name tys)
numbered_from_bare i [] = refl
numbered_from_bare i (ty ∷ tys) = ap (λ l. record { index = i; ty = placeless_name ty; at = nowhere } ∷ l) (numbered_from_bare (suc i) tys)

fields_bare : (fs : FormTrees) → bared placeless_fields (fields_of fs) ≡ fields_of (all_bare fs)
fields_bare no_form = refl
fields_bare (form_and (a_list fs p e) rest) = with_names_bare (form_and (a_list fs p e) rest)
fields_bare (form_and f rest) = grind (arith, both, names_bare, numbered_from_bare)

variant_bare : (f : FormTree) → bared placeless_variant (variant_of f) ≡ variant_of (bare f)
variant_bare f = grind (arith, common_steps, both, list_bare, next_name_bare, fields_bare)

enumeration_bare : (l : Listed) → bared placeless_value (enumeration_of l) ≡ enumeration_of (bare_list l)
enumeration_bare l =
    both (map placeless_variant) placeless_value (variants_of l.parts) (variants_of (all_bare l.parts)) _ _
    (each_bare placeless_variant variant_of variant_of variant_bare l.parts) (λ vs. refl)

value_bare : (f : FormTree) → bared placeless_value (type_value_of f) ≡ type_value_of (bare f)
value_bare f =
    both bare_named placeless_value (headed_of M.TypeValue f) (headed_of M.TypeValue (bare f)) _ _ (headed_bare M.TypeValue f) (λ h.
    either placeless_value (reads h.0 (codes "primitive")) _ _ _ _ (grind (arith, common_steps, both, next_name_bare, ended_bare))
    (grind (arith, common_steps, either placeless_value, enumeration_bare, both, fields_bare)))

-- the rest of a type's definition, behind its name and its words
abbrev type_by : Name → Position → Bool × Listed → Bool × Listed → Result Definition Wrong
type_by name at outside silent =
    next_of M.TypeValue silent.1 >>= (λ value. type_value_of value.0 >>= (λ v. ended value.1.parts >>= (λ _.
    Ok (type_definition (record { name = name; is_extern = outside.0; is_nodebug = silent.0; value = v; at = at })))))

type_bare : (l : Listed) → bared placeless_definition (type_definition_of l) ≡ type_definition_of (bare_list l)
type_bare l =
    both bare_named placeless_definition (next_name_of l) (next_name_of (bare_list l)) _ _ (next_name_bare l) (λ name.
    let outside = next_if_of (codes "extern") name.1 in
    let silent = next_if_of (codes "nodebug") outside.1 in
    let outside_bare = next_if_bare (codes "extern") name.1 in
    let silent_bare = next_if_bare (codes "nodebug") outside.1 ∙ ap (λ s. next_if_of (codes "nodebug") s.1) outside_bare in
    grind (arith, common_steps, both, next_bare, value_bare, ended_bare)
    ∙ ap (λ s. type_by (placeless_name name.0) nowhere s (bare_flagged silent)) outside_bare
    ∙ ap (λ s. type_by (placeless_name name.0) nowhere (next_if_of (codes "extern") (bare_list name.1)) s) silent_bare)

-- ---- terms

abbrev same_flags : FlagSet → FlagSet
same_flags flags = flags

flags_bare : (flags : FlagSet) (fs : FormTrees) → bared same_flags (flags_of flags fs) ≡ flags_of flags (all_bare fs)
flags_bare flags no_form = refl
flags_bare flags (form_and f fs) =
    both same_flags same_flags (with_flag_of flags f) (with_flag_of flags (bare f)) _ _ (grind (arith, either)) (λ more. flags_bare more fs)

abbrev Four : Type 0
Four = FormTrees × FormTree × FormTree × FormTree

abbrev bare_four : Four → Four
bare_four s = (all_bare s.0, bare s.1, bare s.2, bare s.3)

last_three_bare : (fs : FormTrees) → option_map bare_four (last_three fs) ≡ last_three (all_bare fs)
last_three_bare (form_and a (form_and b (form_and c (form_and d ds)))) = grind (arith, common_steps, last_three_bare (form_and b (form_and c (form_and d ds))))
last_three_bare _ = refl

declared_bare : (at : Position) (o : Option Four) → bared placeless_definition (declared_of at o) ≡ declared_of nowhere (option_map bare_four o)
declared_bare at None = refl
declared_bare at (Some s) =
    both same_flags placeless_definition (flags_of no_flags s.0) (flags_of no_flags (all_bare s.0)) _ _ (flags_bare no_flags s.0) (λ flags.
    both bare_list placeless_definition (list_of M.Names s.2) (list_of M.Names (bare s.2)) _ _ (list_bare M.Names s.2) (λ args.
    both placeless_name placeless_definition (name_of s.1) (name_of (bare s.1)) _ _ (name_bare s.1) (λ term. grind (arith, both, names_bare, name_bare))))

extractor_bare : (l : Listed) → bared placeless_definition (extractor_of l) ≡ extractor_of (bare_list l)
extractor_bare l =
    both bare_next placeless_definition (next_of M.Names l) (next_of M.Names (bare_list l)) _ _ (next_bare M.Names l) (λ use_of.
    both bare_list placeless_definition (list_of M.Names use_of.0) (list_of M.Names (bare use_of.0)) _ _ (list_bare M.Names use_of.0) (λ used.
    both bare_named placeless_definition (next_name_of used) (next_name_of (bare_list used)) _ _ (next_name_bare used) (λ term.
    both bare_next placeless_definition (next_of M.Pattern use_of.1) (next_of M.Pattern (bare_list use_of.1)) _ _ (next_bare M.Pattern use_of.1) (λ template.
    both (map placeless_name) placeless_definition (names_of term.1.parts) (names_of (all_bare term.1.parts)) _ _ (names_bare term.1.parts) (λ args.
    both placeless_pattern placeless_definition (pattern_of template.0) (pattern_of (bare template.0)) _ _ (pattern_bare template.0) (λ pattern.
    both (λ _. tt) placeless_definition (ended template.1.parts) (ended (all_bare template.1.parts)) _ _ (ended_bare template.1.parts) (λ _. refl)))))))

infallible_bare : (l : Listed) → bare_flagged (infallible_of l) ≡ infallible_of (bare_list l)
infallible_bare l = grind (arith, common_steps, apply_if, count_bare, next_if_bare)

abbrev extractor_by : Position → Bool × Listed → Result Definition Wrong
extractor_by at sure =
    next_name_of sure.1 >>= (λ term. next_name_of term.1 >>= (λ func. ended func.1.parts >>= (λ _.
    Ok (extern_definition (extern_extractor term.0 func.0 at sure.0)))))

external_extractor_bare : (l : Listed) → bared placeless_definition (external_extractor_of l) ≡ external_extractor_of (bare_list l)
external_extractor_bare l = (grind (arith, common_steps, both, next_name_bare, ended_bare)) ∙ ap (extractor_by nowhere) (infallible_bare l)

external_by_bare : (f : FormTree) (l : Listed) → bared placeless_definition (external_by f l) ≡ external_by (bare f) (bare_list l)
external_by_bare f l = grind (arith, common_steps, either, external_extractor_bare)

-- ---- rules

condition_bare : (pattern : PatternTree) (l : Listed) → bared placeless_if_let (condition_of pattern l) ≡ condition_of (placeless_pattern pattern) (bare_list l)
condition_bare pattern l = grind (arith, common_steps, both, next_bare, expr_bare, ended_bare)

if_let_bare : (l : Listed) → bared placeless_if_let (if_let_of l) ≡ if_let_of (bare_list l)
if_let_bare l =
    both bare_next placeless_if_let (next_of M.Pattern l) (next_of M.Pattern (bare_list l)) _ _ (next_bare M.Pattern l) (λ f.
    both placeless_pattern placeless_if_let (pattern_of f.0) (pattern_of (bare f.0)) _ _ (pattern_bare f.0) (λ q. condition_bare q f.1))

statement_bare : (f : FormTree) → bared placeless_if_let (statement_of f) ≡ statement_of (bare f)
statement_bare f =
    both bare_named placeless_if_let (headed_of M.Statement f) (headed_of M.Statement (bare f)) _ _ (headed_bare M.Statement f) (λ h.
    either placeless_if_let (reads h.0 (codes "if-let")) _ _ _ _ (if_let_bare h.1)
    (either placeless_if_let (reads h.0 (codes "if")) _ _ _ _ (condition_bare (wildcard_pattern h.1.at) h.1) refl))

abbrev bare_maybe : Option Name × Listed → Option Name × Listed
bare_maybe s = (option_map placeless_name s.0, bare_list s.1)

rule_name_bare : (l : Listed) → bare_maybe (rule_name_of l) ≡ rule_name_of (bare_list l)
rule_name_bare l = grind (arith, common_steps)

abbrev bare_priority : Option ℤ × Listed → Option ℤ × Listed
bare_priority s = (s.0, bare_list s.1)

abbrev bare_body : FormTrees × FormTree → FormTrees × FormTree
bare_body s = (all_bare s.0, bare s.1)

parted_bare : (ends : Position) (fs : FormTrees) → bared bare_body (parted_of ends fs) ≡ parted_of nowhere (all_bare fs)
parted_bare ends (form_and f (form_and g gs)) =
    both bare_body bare_body (parted_of ends (form_and g gs)) (parted_of nowhere (form_and (bare g) (all_bare gs))) _ _ (parted_bare ends (form_and g gs)) (λ s. refl)
parted_bare ends _ = refl

-- the rest of a rule, behind its name
abbrev rule_by : Position → Position → Option Name × Listed → Result Definition Wrong
rule_by at ends name =
    priority_of name.1 >>= (λ prio. next_of M.Pattern prio.1 >>= (λ root. parted_of ends root.1.parts >>= (λ body.
    pattern_of root.0 >>= (λ pattern. statements_of body.0 >>= (λ iflets. expr_of body.1 >>= (λ x.
    Ok (rule_definition (record { pattern = pattern; iflets = iflets; expr = x; at = at; prio = prio.0; name = name.0 }))))))))

rule_by_bare : (at ends : Position) (name : Option Name × Listed) → bared placeless_definition (rule_by at ends name) ≡ rule_by nowhere nowhere (bare_maybe name)
rule_by_bare at ends name =
    both bare_priority placeless_definition (priority_of name.1) (priority_of (bare_list name.1)) _ _ (grind (arith, common_steps, either)) (λ prio.
    both bare_next placeless_definition (next_of M.Pattern prio.1) (next_of M.Pattern (bare_list prio.1)) _ _ (next_bare M.Pattern prio.1) (λ root.
    both bare_body placeless_definition (parted_of ends root.1.parts) (parted_of nowhere (all_bare root.1.parts)) _ _ (parted_bare ends root.1.parts) (λ body.
    both placeless_pattern placeless_definition (pattern_of root.0) (pattern_of (bare root.0)) _ _ (pattern_bare root.0) (λ pattern.
    both (map placeless_if_let) placeless_definition (statements_of body.0) (statements_of (all_bare body.0)) _ _
    (each_bare placeless_if_let statement_of statement_of statement_bare body.0) (λ iflets.
    both placeless_expr placeless_definition (expr_of body.1) (expr_of (bare body.1)) _ _ (expr_bare body.1) (λ x. refl))))))

rule_bare : (l : Listed) → bared placeless_definition (rule_of l) ≡ rule_of (bare_list l)
rule_bare l = rule_by_bare l.at l.ends (rule_name_of l) ∙ ap (rule_by nowhere nowhere) (rule_name_bare l)

-- ---- definitions

defined_by_bare : (head : Name) (l : Listed) → bared placeless_definition (defined_by head l) ≡ defined_by (placeless_name head) (bare_list l)
defined_by_bare head l = grind (arith, common_steps, either, type_bare, rule_bare, extractor_bare, declared_bare, last_three_bare, both, next_bare, external_by_bare)

pub definition_bare : (f : FormTree) → bared placeless_definition (definition_of f) ≡ definition_of (bare f)
definition_bare f = grind (arith, common_steps, both bare_named placeless_definition (headed_of M.Definition f), headed_bare M.Definition f, defined_by_bare)
