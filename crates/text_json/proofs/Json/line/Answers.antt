use Rattle.std.proofs.Common.{List, [], ◌∷◌, ◌++◌, ℕ, ap, ◌∙◌, reverse}
use Rattle.json.specs.Json.{object}
use Rattle.text_json.proofs.Nesting.{is_line, is_line_of}
use Rattle.text_json.proofs.Writing.{whole_written}
use Rattle.text_json.proofs.Json.line.Goals as goal

pub returns-clause-json : goal.returns-clause-json
returns-clause-json c =
    is_line c.push_ends.new.out.tokens _ c.in_ok-push_ends.ensures.whole c.printed-text.ensures.read
    (c.in_ok-push_str.ensures.bytes ∙ ap (λ (bytes : List ℕ). bytes ++ 10 ∷ []) c.printed-text.ensures.text)

pub returns-clause-members : goal.returns-clause-members
returns-clause-members c ms e =
    is_line_of (object ms) c.push_ends.new.out.tokens _
    (whole_written ms c.args.self.out.tokens c.push_ends.new.out.tokens (reverse c.args.self.outer.items) c.args.self.place c.args.self.nested e c.in_ok-push_ends.ensures.ends)
    c.printed-text.ensures.read
    (c.in_ok-push_str.ensures.bytes ∙ ap (λ (bytes : List ℕ). bytes ++ 10 ∷ []) c.printed-text.ensures.text)
