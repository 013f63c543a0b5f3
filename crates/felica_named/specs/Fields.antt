-- The fields, and the number of each.
-- Assumes nothing.
use Rattle.std.specs.Prelude.{ℕ, ◌+◌}
use Rattle.felica_named.specs.Names.{number_of}
use Rattle.felica_named.specs.declared.names.Field.{Field}
use Rattle.felica_named.specs.declared.names.Field.TheVariants.{Idm, First, Second, Numbers, Places, Modes, Data, Package, System, Request, Slots, Parent}
use Rattle.felica_named.specs.declared.names.Field.TheVariants.{Index, Node, Property, PropertyType, Operation, Encryption, Packet, Challenge, LongChallenge, IssueId, IssueParameter}

-- a challenge of 16 bytes has the number behind that of 8 bytes
unfoldable pub place : Field → ℕ
place Idm = number_of " idm="
place First = number_of " first="
place Second = number_of " second="
place Numbers = number_of " numbers="
place Places = number_of " places="
place Modes = number_of " modes="
place Data = number_of " data="
place Package = number_of " package="
place System = number_of " system="
place Request = number_of " request="
place Slots = number_of " slots="
place Parent = number_of " parent="
place Index = number_of " index="
place Node = number_of " node="
place Property = number_of " property="
place PropertyType = number_of " type="
place Operation = number_of " operation="
place Encryption = number_of " encryption="
place Packet = number_of " packet="
place Challenge = number_of " challenge="
place LongChallenge = number_of " challenge=" + 1
place IssueId = number_of " issue_id="
place IssueParameter = number_of " issue_parameter="
