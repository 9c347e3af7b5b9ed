-- Integer literals at the built-in types: which number of the type each stands for.
use Rattle.std.specs.Prelude.{◌≡◌, pos, negsuc, neg_ℤ, ◌^◌}
use Rattle.model.specs.lists.Ranges.{reduce, signed, unsigned}

-- numbers past the ends of ranges, and one within
abbrev pub NumbersAreReduced : Type 0
NumbersAreReduced =
    (reduce (unsigned 8) (negsuc 0) ≡ pos 255)
    × (reduce (unsigned 8) (pos 256) ≡ pos 0)
    × (reduce (signed 8) (pos 200) ≡ negsuc 55)
    × (reduce (unsigned 64) (negsuc 0) ≡ pos 18446744073709551615)
    × (reduce (signed 64) (pos 9223372036854775808) ≡ negsuc 9223372036854775807)
    × (reduce (signed 128) (negsuc 0) ≡ negsuc 0)
    × (reduce (signed 128) (pos (2 ^ 127)) ≡ neg_ℤ (pos (2 ^ 127)))
