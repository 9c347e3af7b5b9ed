-- Rules.
use Rattle.std.specs.Prelude.{◌^◌, ℤ, pos, negsuc, nat_lt, Bool, List, codes, Option, Some, None, Result, Ok, if◌then◌else◌}
use Rattle.model.specs.lists.Syntax.{Position, Name, PatternTree, wildcard_pattern, IfLetTree, Definition, rule_definition}
use Rattle.text_reader.specs.declared.errors.Mistake.TheVariants as M
use Rattle.text_reader.specs.Lexemes.{Wrong, ◌>>=◌}
use Rattle.text_reader.specs.FormTrees.{FormTree, a_word, a_number, a_constant, a_binding, a_list, FormTrees, no_form, form_and}
use Rattle.text_reader.specs.Grammar.{Listed, listed, no, reads, each_of, headed_of, next_of, ended}
use Rattle.text_reader.specs.PatternGrammar.{pattern_of}
use Rattle.text_reader.specs.ExprGrammar.{expr_of}

-- EXPR, whose value a pattern matches
abbrev pub condition_of : PatternTree → Listed → Result IfLetTree Wrong
condition_of pattern l =
    next_of M.Expression l >>= (λ f. expr_of f.0 >>= (λ x. ended f.1.parts >>= (λ _.
    Ok (record { pattern = pattern; expr = x; at = l.at }))))

-- ( if-let PATTERN EXPR ), behind its head
abbrev pub if_let_of : Listed → Result IfLetTree Wrong
if_let_of l = next_of M.Pattern l >>= (λ f. pattern_of f.0 >>= (λ q. condition_of q f.1))

-- ( if-let PATTERN EXPR ), or ( if EXPR ) of a value that isn't looked at
abbrev pub statement_of : FormTree → Result IfLetTree Wrong
statement_of f = headed_of M.Statement f >>= (λ h.
    if reads h.0 (codes "if-let") then if_let_of h.1
    else if reads h.0 (codes "if") then condition_of (wildcard_pattern h.1.at) h.1
    else no M.Statement h.1.at)

abbrev pub statements_of : FormTrees → Result (List IfLetTree) Wrong
statements_of fs = each_of statement_of fs

-- a word that comes first is the rule's name
abbrev pub named_in : FormTrees → Position → Position → Option Name × Listed
named_in no_form at ends = (None, listed no_form at ends)
named_in (form_and (a_word n) fs) at ends = (Some n, listed fs at ends)
named_in (form_and (a_number z p) fs) at ends = (None, listed (form_and (a_number z p) fs) at ends)
named_in (form_and (a_constant n p) fs) at ends = (None, listed (form_and (a_constant n p) fs) at ends)
named_in (form_and (a_binding n f) fs) at ends = (None, listed (form_and (a_binding n f) fs) at ends)
named_in (form_and (a_list gs p e) fs) at ends = (None, listed (form_and (a_list gs p e) fs) at ends)

abbrev pub rule_name_of : Listed → Option Name × Listed
rule_name_of l = named_in l.parts l.at l.ends

-- whether a number has 64 bits, of which one is its sign
abbrev pub is_signed_64 : ℤ → Bool
is_signed_64 (pos n) = nat_lt n (2 ^ 63)
is_signed_64 (negsuc n) = nat_lt n (2 ^ 63)

-- a number that comes next is its priority
abbrev pub prioritized_in : FormTrees → Position → Position → Result (Option ℤ × Listed) Wrong
prioritized_in no_form at ends = Ok (None, listed no_form at ends)
prioritized_in (form_and (a_word n) fs) at ends = Ok (None, listed (form_and (a_word n) fs) at ends)
prioritized_in (form_and (a_number z p) fs) at ends =
    if is_signed_64 z then Ok (Some z, listed fs at ends) else no M.PriorityRange p
prioritized_in (form_and (a_constant n p) fs) at ends = Ok (None, listed (form_and (a_constant n p) fs) at ends)
prioritized_in (form_and (a_binding n f) fs) at ends = Ok (None, listed (form_and (a_binding n f) fs) at ends)
prioritized_in (form_and (a_list gs p e) fs) at ends = Ok (None, listed (form_and (a_list gs p e) fs) at ends)

abbrev pub priority_of : Listed → Result (Option ℤ × Listed) Wrong
priority_of l = prioritized_in l.parts l.at l.ends

-- the last of some forms, behind those before it; that there is none is told where their list ends
abbrev pub parted_of : Position → FormTrees → Result (FormTrees × FormTree) Wrong
parted_of ends no_form = no M.Expression ends
parted_of ends (form_and f no_form) = Ok (no_form, f)
parted_of ends (form_and f (form_and g gs)) = parted_of ends (form_and g gs) >>= (λ s. Ok (form_and f s.0, s.1))

-- ( rule NAME? PRIORITY? PATTERN STATEMENT .. EXPR )
abbrev pub rule_of : Listed → Result Definition Wrong
rule_of l =
    let name = rule_name_of l in
    priority_of name.1 >>= (λ prio. next_of M.Pattern prio.1 >>= (λ root. parted_of l.ends root.1.parts >>= (λ body.
    pattern_of root.0 >>= (λ pattern. statements_of body.0 >>= (λ iflets. expr_of body.1 >>= (λ x.
    Ok (rule_definition (record { pattern = pattern; iflets = iflets; expr = x; at = l.at; prio = prio.0; name = name.0 }))))))))
