-- Document 01's examples, the slips that it warns of and a command of every code, as tables: what reading answers, and what it must answer.
-- proofs/Examples.antt proves each of the layouts themselves.
-- Assumes nothing.
use Rattle.std.specs.Prelude.{ℕ, suc, ◌≡◌, cond, List, [], ◌∷◌, ◌++◌, map, length, get_or, ltb}
use Rattle.std.specs.Prelude.{None, Some}
use Rattle.felica_format.specs.Basic.{zeros}
use Rattle.felica_format.specs.Command.{Element, EndFields, end_fields, command_of, no_fields}
use Rattle.felica_format.specs.Read.{Answer, gives, refused, read_frame, read_secure}

pub record Example : Type 0 where
  pub read : Answer
  pub answer : Answer

infix 5 ◌answers◌
abbrev pub ◌answers◌ : Answer → Answer → Example
read answers answer = record { read = read; answer = answer }

unfoldable pub AllAnswered : List Example → Type 0
AllAnswered examples = map (λ x. x.read) examples ≡ map (λ x. x.answer) examples

-- "I8 stands for the bytes 01 02 03 04 05 06 07 08."
abbrev pub I8 : List ℕ
I8 = 0x01 ∷ 0x02 ∷ 0x03 ∷ 0x04 ∷ 0x05 ∷ 0x06 ∷ 0x07 ∷ 0x08 ∷ []

-- a frame is refused on the ground n: "its number and, from 4 up, the command code"
abbrev pub refused_on : ℕ → List ℕ → Example
refused_on n frame = read_frame frame answers refused n (cond (ltb n 4) None (Some (get_or frame 1 0)))

-- "The twelve starred rows are proved of the layouts themselves as a table with a shared theorem"
unfoldable pub starred : List Example
starred =
    refused_on 2 (0x02 ∷ [])
    ∷ refused_on 3 (0x01 ∷ [])
    ∷ refused_on 4 (0x02 ∷ 0x14 ∷ [])
    ∷ refused_on 8 (0x0B ∷ 0x04 ∷ I8 ++ (0x00 ∷ []))
    ∷ refused_on 10 (0x0B ∷ 0x02 ∷ I8 ++ (0x00 ∷ []))
    ∷ refused_on 13 (0x0B ∷ 0x02 ∷ I8 ++ (0x01 ∷ []))
    ∷ refused_on 15 (0x0F ∷ 0x06 ∷ I8 ++ (0x01 ∷ 0x0B ∷ 0x10 ∷ 0x01 ∷ 0x80 ∷ []))
    ∷ refused_on 16 (0x10 ∷ 0x06 ∷ I8 ++ (0x01 ∷ 0x0B ∷ 0x10 ∷ 0x01 ∷ 0x00 ∷ 0x05 ∷ []))
    ∷ refused_on 17 (0x10 ∷ 0x08 ∷ I8 ++ (0x01 ∷ 0x09 ∷ 0x10 ∷ 0x01 ∷ 0x80 ∷ 0x00 ∷ []))
    ∷ refused_on 18 (0x04 ∷ 0x70 ∷ 0x00 ∷ 0x01 ∷ [])
    ∷ refused_on 19 (0x06 ∷ 0x00 ∷ 0xFF ∷ 0xFF ∷ 0x03 ∷ 0x00 ∷ [])
    ∷ refused_on 20 (0x06 ∷ 0x00 ∷ 0xFF ∷ 0xFF ∷ 0x00 ∷ 0x02 ∷ [])
    ∷ []

abbrev pub element : ℕ → ℕ → ℕ → Element
element number place mode = record { number = number; place = place; mode = mode }

abbrev pub a_number : ℕ → EndFields
a_number n = end_fields n 0 0 0 (zeros 16)

abbrev pub a_challenge : List ℕ → EndFields
a_challenge bs = end_fields 0 0 0 0 bs

unfoldable pub slips : List Example
slips =
    -- the measure before the values: "07 00 FF FF 03 00 00 is 8, not 19"
    refused_on 8 (0x07 ∷ 0x00 ∷ 0xFF ∷ 0xFF ∷ 0x03 ∷ 0x00 ∷ 0x00 ∷ [])
    -- "then D0 to D3, then D6 and D7, then encryption type, then packet type"
    ∷ refused_on 18 (0x12 ∷ 0x20 ∷ I8 ++ (0x00 ∷ 0x00 ∷ 0x00 ∷ 0x01 ∷ 0x02 ∷ 0x02 ∷ 0x00 ∷ 0x00 ∷ []))
    ∷ refused_on 18 (0x12 ∷ 0x20 ∷ I8 ++ (0x00 ∷ 0x00 ∷ 0x00 ∷ 0x00 ∷ 0x02 ∷ 0x02 ∷ 0x01 ∷ 0x00 ∷ []))
    ∷ refused_on 19 (0x12 ∷ 0x20 ∷ I8 ++ (0x00 ∷ 0x00 ∷ 0x00 ∷ 0x00 ∷ 0x02 ∷ 0x02 ∷ 0x00 ∷ 0x00 ∷ []))
    ∷ refused_on 20 (0x12 ∷ 0x20 ∷ I8 ++ (0x00 ∷ 0x00 ∷ 0x00 ∷ 0x00 ∷ 0x01 ∷ 0x02 ∷ 0x00 ∷ 0x00 ∷ []))
    -- "Authentication1 takes 0 to 32 areas and 0 to 32 services. Authentication1 V2 takes 1 to 32 nodes."
    ∷ (read_frame (0x14 ∷ 0x10 ∷ I8 ++ (0x00 ∷ 0x00 ∷ I8)) answers gives (command_of 0x10 I8 0 [] [] [] [] (a_challenge (I8 ++ zeros 8)) []) 0)
    ∷ refused_on 10 (0x0C ∷ 0x40 ∷ I8 ++ (0x00 ∷ 0x00 ∷ []))
    -- Polling's system code has the high byte first
    ∷ (read_frame (0x06 ∷ 0x00 ∷ 0xFE ∷ 0x00 ∷ 0x01 ∷ 0x0F ∷ []) answers gives (command_of 0x00 (zeros 8) 0 [] [] [] [] (end_fields 0xFE00 0 0x01 0x0F (zeros 16)) []) 0)
    -- bit 7 set: short, and no part of the mode; 255 short and long, 256 long; so two were long
    ∷ (
    read_frame (0x16 ∷ 0x06 ∷ I8 ++ (0x01 ∷ 0x0B ∷ 0x10 ∷ 0x03 ∷ 0xF1 ∷ 0xFF ∷ 0x71 ∷ 0xFF ∷ 0x00 ∷ 0x12 ∷ 0x00 ∷ 0x01 ∷ []))
    answers gives (command_of 0x06 I8 0 (0x100B ∷ []) [] (element 255 1 7 ∷ element 255 1 7 ∷ element 256 2 1 ∷ []) [] no_fields []) 2
    )
    -- a secure read ignores its tail
    ∷ (read_secure 0x14 (0x01 ∷ 0x25 ∷ 0x00 ∷ 0x01 ∷ 0xAA ∷ []) answers gives (command_of 0x14 (zeros 8) 0 [] [] (element 256 5 2 ∷ []) [] no_fields []) 1)
    -- a plain code is unknown among the secure ones
    ∷ (read_secure 0x04 [] answers refused 5 (Some 0x04))
    ∷ []

-- a frame of the code and the body
abbrev pub frame : ℕ → List ℕ → Answer
frame code body = read_frame (suc (suc (length body)) ∷ code ∷ body)

abbrev pub one_element : List Element
one_element = element 5 0 0 ∷ []

abbrev pub I16 : List ℕ
I16 = I8 ++ (0x11 ∷ 0x12 ∷ 0x13 ∷ 0x14 ∷ 0x15 ∷ 0x16 ∷ 0x17 ∷ 0x18 ∷ [])

-- No row of the layouts is without a command: one that is accepted, for each of the 33 codes.
unfoldable pub every_code : List Example
every_code =
    (frame 0x00 (0xFE ∷ 0x00 ∷ 0x01 ∷ 0x0F ∷ []) answers gives (command_of 0x00 (zeros 8) 0 [] [] [] [] (end_fields 0xFE00 0 0x01 0x0F (zeros 16)) []) 0)
    ∷ (frame 0x02 (I8 ++ (0x01 ∷ 0x0B ∷ 0x10 ∷ [])) answers gives (command_of 0x02 I8 0 (0x100B ∷ []) [] [] [] no_fields []) 0)
    ∷ (frame 0x04 I8 answers gives (command_of 0x04 I8 0 [] [] [] [] no_fields []) 0)
    ∷ (frame 0x06 (I8 ++ (0x01 ∷ 0x0B ∷ 0x10 ∷ 0x01 ∷ 0x80 ∷ 0x05 ∷ [])) answers gives (command_of 0x06 I8 0 (0x100B ∷ []) [] one_element [] no_fields []) 0)
    ∷ (frame 0x08 (I8 ++ (0x01 ∷ 0x0B ∷ 0x10 ∷ 0x01 ∷ 0x80 ∷ 0x05 ∷ I16)) answers gives (command_of 0x08 I8 0 (0x100B ∷ []) [] one_element I16 no_fields []) 0)
    ∷ (frame 0x0A (I8 ++ (0x34 ∷ 0x12 ∷ [])) answers gives (command_of 0x0A I8 0 [] [] [] [] (a_number 0x1234) []) 0)
    ∷ (frame 0x0C I8 answers gives (command_of 0x0C I8 0 [] [] [] [] no_fields []) 0)
    ∷ (frame 0x0E (I8 ++ (0x01 ∷ 0x0B ∷ 0x10 ∷ [])) answers gives (command_of 0x0E I8 0 (0x100B ∷ []) [] [] [] no_fields []) 0)
    ∷ (frame 0x10 (I8 ++ (0x01 ∷ 0x0B ∷ 0x10 ∷ 0x01 ∷ 0x0C ∷ 0x10 ∷ I8)) answers gives (command_of 0x10 I8 0 (0x100B ∷ []) (0x100C ∷ []) [] [] (a_challenge (I8 ++ zeros 8)) []) 0)
    ∷ (frame 0x12 (I8 ++ I8) answers gives (command_of 0x12 I8 0 [] [] [] [] (a_challenge (I8 ++ zeros 8)) []) 0)
    ∷ (frame 0x1A (I8 ++ (0x34 ∷ 0x12 ∷ 0x78 ∷ 0x56 ∷ [])) answers gives (command_of 0x1A I8 0 [] [] [] [] (end_fields 0x1234 0x5678 0 0 (zeros 16)) []) 0)
    ∷ (frame 0x1E (I8 ++ (0x01 ∷ 0x0B ∷ 0x10 ∷ [])) answers gives (command_of 0x1E I8 0 (0x100B ∷ []) [] [] [] no_fields []) 0)
    ∷ (frame 0x20 (I8 ++ (0x00 ∷ 0x00 ∷ 0x00 ∷ 0x00 ∷ 0x00 ∷ 0x01 ∷ 0x00 ∷ 0x00 ∷ [])) answers gives (command_of 0x20 I8 0 [] [] [] [] (end_fields 0 0 0 1 (zeros 16)) []) 0)
    ∷ (frame 0x22 (I8 ++ (0x00 ∷ 0x00 ∷ [])) answers gives (command_of 0x22 I8 0 [] [] [] [] no_fields []) 0)
    ∷ (frame 0x24 (I8 ++ (0x34 ∷ 0x12 ∷ [])) answers gives (command_of 0x24 I8 0 [] [] [] [] (a_number 0x1234) []) 0)
    ∷ (frame 0x28 (I8 ++ (0x01 ∷ 0x01 ∷ 0x0B ∷ 0x10 ∷ [])) answers gives (command_of 0x28 I8 1 (0x100B ∷ []) [] [] [] no_fields []) 0)
    ∷ (frame 0x2E (0x34 ∷ 0x12 ∷ []) answers gives (command_of 0x2E (zeros 8) 0 [] [] [] [] (a_number 0x1234) []) 0)
    ∷ (frame 0x32 (I8 ++ (0x01 ∷ 0x0B ∷ 0x10 ∷ [])) answers gives (command_of 0x32 I8 0 (0x100B ∷ []) [] [] [] no_fields []) 0)
    ∷ (frame 0x38 (I8 ++ (0x00 ∷ 0x00 ∷ [])) answers gives (command_of 0x38 I8 0 [] [] [] [] no_fields []) 0)
    ∷ (frame 0x3A I8 answers gives (command_of 0x3A I8 0 [] [] [] [] no_fields []) 0)
    ∷ (frame 0x3C (I8 ++ (0x00 ∷ 0x00 ∷ [])) answers gives (command_of 0x3C I8 0 [] [] [] [] no_fields []) 0)
    ∷ (frame 0x3E (I8 ++ (0x00 ∷ 0x00 ∷ [])) answers gives (command_of 0x3E I8 0 [] [] [] [] no_fields []) 0)
    ∷ (frame 0x40 (I8 ++ (0xFF ∷ 0x01 ∷ 0x0B ∷ 0x10 ∷ I16)) answers gives (command_of 0x40 I8 255 (0x100B ∷ []) [] [] [] (a_challenge I16) []) 0)
    ∷ (frame 0x42 (I8 ++ I16) answers gives (command_of 0x42 I8 0 [] [] [] [] (a_challenge I16) []) 0)
    ∷ (frame 0x70 (0x00 ∷ 0x00 ∷ []) answers gives (command_of 0x70 (zeros 8) 0 [] [] [] [] no_fields []) 0)
    ∷ (read_secure 0x14 (0x01 ∷ 0x80 ∷ 0x05 ∷ 0xAA ∷ []) answers gives (command_of 0x14 (zeros 8) 0 [] [] one_element [] no_fields []) 0)
    ∷ (read_secure 0x16 (0x01 ∷ 0x80 ∷ 0x05 ∷ I16 ++ (0xAA ∷ [])) answers gives (command_of 0x16 (zeros 8) 0 [] [] one_element I16 no_fields []) 0)
    ∷ (read_secure 0x44 (0x01 ∷ 0x80 ∷ 0x05 ∷ 0xAA ∷ []) answers gives (command_of 0x44 (zeros 8) 0 [] [] one_element [] no_fields []) 0)
    ∷ (read_secure 0x46 (0x01 ∷ 0x80 ∷ 0x05 ∷ I16 ++ (0xAA ∷ [])) answers gives (command_of 0x46 (zeros 8) 0 [] [] one_element I16 no_fields []) 0)
    ∷ (read_secure 0x80 (I16 ++ (0xAA ∷ [])) answers gives (command_of 0x80 (zeros 8) 0 [] [] [] [] (a_challenge I16) (0xAA ∷ [])) 0)
    ∷ (read_secure 0x82 (0x34 ∷ 0x12 ∷ 0xAA ∷ []) answers gives (command_of 0x82 (zeros 8) 0 [] [] [] [] (a_number 0x1234) (0xAA ∷ [])) 0)
    ∷ (read_secure 0x84 (0x34 ∷ 0x12 ∷ 0xAA ∷ []) answers gives (command_of 0x84 (zeros 8) 0 [] [] [] [] (a_number 0x1234) (0xAA ∷ [])) 0)
    ∷ (read_secure 0x8E [] answers gives (command_of 0x8E (zeros 8) 0 [] [] [] [] no_fields []) 0)
    ∷ []
