-- What stands before the functions of terms leaves nothing open: no comment and no quotes.
use Rattle.std.specs.Prelude.{◌≡◌, ◌==◌, ℕ, Bool, List, [], ◌∷◌, if◌then◌else◌}
use Rattle.rust_items.specs.FilePlaces.{Sources}
use Rattle.cranelift_isle.specs.declared.lower.Lowered.{Lowered}
use Rattle.rust_text.specs.WholeCode.{front_written}

-- where a reader of Rust stands in a text. A comment that isn't one of a line, as behind `/*`, is never left
pub data Standing : Type 0 where
  outside behind_slash in_line_comment in_other_comment in_quotes behind_backslash : Standing

abbrev pub one_further : Standing → ℕ → Standing
one_further outside c = if c == 34 then in_quotes else if c == 47 then behind_slash else outside
one_further behind_slash c = if c == 47 then in_line_comment else in_other_comment
one_further in_line_comment c = if c == 10 then outside else in_line_comment
one_further in_other_comment c = in_other_comment
one_further in_quotes c = if c == 92 then behind_backslash else if c == 34 then outside else in_quotes
one_further behind_backslash c = in_quotes

abbrev pub standing_behind : Standing → List ℕ → Standing
standing_behind s [] = s
standing_behind s (c ∷ cs) = standing_behind (one_further s c) cs

-- so functions begin outside
abbrev pub FrontsAreClosed : Type 0
FrontsAreClosed = (l : Lowered) (sources : Sources) (excluded : Bool) → standing_behind outside (front_written l sources excluded) ≡ outside
