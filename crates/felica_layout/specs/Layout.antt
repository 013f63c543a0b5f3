-- The code's layouts as those of felica_format, and the layout that a code has, with its class.
-- Assumes nothing.
use Rattle.std.specs.Prelude.{ℕ, Option, None, Some}
use Rattle.felica_format.specs.declared.classes.Class.{Class}
use Rattle.felica_format.specs.declared.constants.Bounds.{Bounds}
use Rattle.felica_format.specs.Layout as format
use Rattle.felica_format.specs.Layout.{class_of, layout_of}
use Rattle.felica_layout.specs.declared.Selector.{Selector}
use Rattle.felica_layout.specs.declared.Selector.TheVariants.{TypeByte, AnyByte}
use Rattle.felica_layout.specs.declared.Ending.{Ending}
use Rattle.felica_layout.specs.declared.Ending.TheVariants.{Bytes, Word, Words, Reserved, Polling, Parameter}
use Rattle.felica_layout.specs.declared.Behind.{Behind}
use Rattle.felica_layout.specs.declared.Behind.TheVariants.{IgnoredBytes, Package}
use Rattle.felica_layout.specs.declared.Layout.{Layout}
use Rattle.felica_layout.specs.declared.Row.{Row}

abbrev pub selector_meant : Option Selector → format.Selector
selector_meant None = format.no_selector
selector_meant (Some TypeByte) = format.type_byte
selector_meant (Some AnyByte) = format.any_byte

abbrev pub codes_meant : Option Bounds → format.Codes
codes_meant None = format.no_codes
codes_meant (Some b) = format.◌to◌ b.least b.greatest

abbrev pub ending_meant : Option Ending → format.Ending
ending_meant None = format.bare
ending_meant (Some (Bytes n)) = format.bytes n
ending_meant (Some Word) = format.word
ending_meant (Some Words) = format.words
ending_meant (Some Reserved) = format.reserved
ending_meant (Some Polling) = format.polling
ending_meant (Some Parameter) = format.parameter

abbrev pub behind_meant : Option Behind → format.Behind
behind_meant None = format.nothing
behind_meant (Some IgnoredBytes) = format.ignored_bytes
behind_meant (Some Package) = format.a_package

abbrev pub layout_meant : Layout → format.Layout
layout_meant l =
    format.layout l.idm (selector_meant l.selector) (codes_meant l.first) (codes_meant l.second) l.elements l.block_data
    (ending_meant l.ending) (behind_meant l.behind)

-- the class of a code and its layout
pub record RowMeant : Type 0 where
  pub class : Class
  pub layout : format.Layout

abbrev pub row : Class → format.Layout → RowMeant
row class l = record { class = class; layout = l }

unfoldable pub row_of : ℕ → RowMeant
row_of code = row (class_of code) (layout_of code)

abbrev pub row_meant : Row → RowMeant
row_meant r = row r.class (layout_meant r.layout)
