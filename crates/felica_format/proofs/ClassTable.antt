-- The class table by its rule: it is the rule's values in order, which antt computes and compares with the source's table. And how many codes each class has.
-- Assumes nothing.
use Rattle.std.proofs.Common.{ℕ, ◌+◌, ◌<◌, ◌≡◌, refl, Bool, true, false, cond, List, [], ◌∷◌, get_or}
use Rattle.felica_format.specs.declared.classes.Class.{Class}
use Rattle.felica_format.specs.declared.classes.Class.TheVariants.{Plain, Secure, Unknown}
use Rattle.felica_format.specs.Layout.{plain_rows, secure_rows, has, class_of}
use Rattle.felica_format.proofs.Tables.{table_from, entry}

unfoldable pub classes : List Class
unfolding table_from class_of has plain_rows secure_rows
classes = table_from class_of 0 256

pub class_at : (code : ℕ) → code < 256 → get_or classes code Plain ≡ class_of code
unfolding classes
class_at code h = entry class_of Plain 256 code h

unfoldable pub is_plain : Class → Bool
is_plain Plain = true
is_plain Secure = false
is_plain Unknown = false

unfoldable pub is_secure : Class → Bool
is_secure Plain = false
is_secure Secure = true
is_secure Unknown = false

unfoldable pub is_unknown : Class → Bool
is_unknown Plain = false
is_unknown Secure = false
is_unknown Unknown = true

-- how many entries of a table pass a test
unfoldable pub count : (Class → Bool) → List Class → ℕ
count test [] = 0
count test (x ∷ xs) = cond (test x) 1 0 + count test xs

-- "25 plain, 8 secure, 223 unknown"
pub class_counts : (count is_plain classes ≡ 25) × (count is_secure classes ≡ 8) × (count is_unknown classes ≡ 223)
unfolding count classes is_plain is_secure is_unknown
class_counts = (refl, refl, refl)
