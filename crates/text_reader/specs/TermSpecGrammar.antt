-- Specs of terms.
use Rattle.std.specs.Prelude.{List, [], ◌∷◌, ◌++◌, codes, Option, Some, None, Result, Ok, if◌then◌else◌}
use Rattle.model.specs.lists.Syntax.{Position, Name}
use Rattle.text_reader.specs.declared.errors.Mistake.TheVariants as M
use Rattle.text_reader.specs.Lexemes.{Wrong, ◌>>=◌}
use Rattle.text_reader.specs.FormTrees.{FormTree, FormTrees, no_form, form_and}
use Rattle.text_reader.specs.Grammar.{Listed, no, reads, headed_of, next_of, next_name_of, ended}
use Rattle.text_reader.specs.SpecTrees.{SpecExprTrees, ModifiesTree, SpecTree}
use Rattle.text_reader.specs.SpecGrammar.{use_of, spec_exprs_of, is_empty}

-- the expressions of a part, unless it was there before
abbrev pub once_of : Option SpecExprTrees → Listed → Result (Option SpecExprTrees) Wrong
once_of None l = spec_exprs_of l.parts >>= (λ xs. Ok (Some xs))
once_of (Some xs) l = no M.OtherSpecPart l.at

-- ( modifies STATE ) or ( modifies STATE COND ), behind its head
abbrev pub modifies_of : Listed → Result ModifiesTree Wrong
modifies_of l = next_name_of l >>= (λ s.
    if is_empty s.1.parts then Ok (record { state = s.0; cond = None; at = l.at })
    else (next_name_of s.1 >>= (λ c. ended c.1.parts >>= (λ _. Ok (record { state = s.0; cond = Some c.0; at = l.at })))))

abbrev pub with_section : SpecTree → Name → Listed → Result SpecTree Wrong
with_section s head l =
    if reads head (codes "provide") then (once_of s.provides l >>= (λ xs. Ok (record s { provides = xs })))
    else if reads head (codes "require") then (once_of s.required l >>= (λ xs. Ok (record s { required = xs })))
    else if reads head (codes "match") then (once_of s.matches l >>= (λ xs. Ok (record s { matches = xs })))
    else if reads head (codes "modifies") then (modifies_of l >>= (λ m. Ok (record s { modifies = s.modifies ++ m ∷ [] })))
    else no M.SpecPart l.at

-- a spec with one more part
abbrev pub with_part_of : SpecTree → FormTree → Result SpecTree Wrong
with_part_of s f = headed_of M.SpecPart f >>= (λ h. with_section s h.0 h.1)

abbrev pub with_parts_of : SpecTree → FormTrees → Result SpecTree Wrong
with_parts_of s no_form = Ok s
with_parts_of s (form_and f fs) = with_part_of s f >>= (λ t. with_parts_of t fs)

-- ( spec ( TERM NAME .. ) PART .. ), behind its head: each of the parts once, but for `modifies`
abbrev pub spec_of : Listed → Result SpecTree Wrong
spec_of l = next_of M.Names l >>= (λ f. use_of f.0 >>= (λ u.
    with_parts_of (record { term = u.0; args = u.1; provides = None; required = None; matches = None; modifies = []; at = l.at }) f.1.parts))
