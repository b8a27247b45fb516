-- What an LM asks for, item by item, by the figures of ISO 16460:2021, clause 5, and with no table: what the plain reader of document
-- 02's ticket 4 is proved against. A section has an opening (an index, an extensions flag and, in an N-Header, a version), then the
-- fields of its kind, then strings of octets: its extension elements, or the user data.
use Rattle.std.specs.Prelude.{ℕ, zero, suc, Bool, true, false, cond, List, ◌∷◌, eqb, pos, replicate}
use Rattle.item.specs.Code.{number, variable, length_within, index, natural}
use Rattle.items.specs.Items.{Items, stop, ask, ◌then◌, one, times}
use Rattle.encoding.specs.Rows.{octets_within}
use Rattle.lm_items.specs.declared.Section.{Section}
use Rattle.lm_items.specs.declared.Section.TheVariants.{Network, Original, Transport, Content, End}
use Rattle.lm_items.specs.declared.Kind.{Kind}
use Rattle.lm_items.specs.declared.Kind.TheVariants.{NullNetworking, InternalForwarding, NHopForwarding, Dissemination, Session, UserData}

-- ── the kinds ──

abbrev pub following : Kind → Section
following NullNetworking = Transport
following InternalForwarding = Original
following NHopForwarding = Transport
following Dissemination = Content
following Session = Content
following UserData = End

abbrev pub rank : Section → ℕ
rank Network = 4
rank Original = 3
rank Transport = 2
rank Content = 1
rank End = 0

-- one octet, two octets
unfoldable pub octet : Items
octet = one (number (pos 0) 255)

unfoldable pub two_octets : Items
two_octets = one (number (pos 0) 65535)

-- the fields of a section
unfoldable pub field_items : Kind → Items
field_items NullNetworking = stop
field_items InternalForwarding = octet then (two_octets then (times 8 octet then octet))  -- direction, ITS-SCU-ID, Link-ID, counter
field_items NHopForwarding = one (number (pos 0) 4194303) then one (number (pos 0) 3)  -- message ID, hop count
field_items Dissemination = one variable  -- destination address
field_items Session = two_octets then two_octets  -- source address, destination address
field_items UserData = stop

-- whether a section is the user data
abbrev pub is_content : Kind → Bool
is_content NullNetworking = false
is_content InternalForwarding = false
is_content NHopForwarding = false
is_content Dissemination = false
is_content Session = false
is_content UserData = true

-- the least length of a string: 1 for an element's contents
abbrev pub least : Kind → ℕ
least kind = cond (is_content kind) 0 1

-- what stands in front of it: an element's ID
abbrev pub id_items : Kind → Items
id_items kind = cond (is_content kind) stop octet

-- a string: its ID where it has one, its length, its octets
unfoldable pub string_items : Kind → Items
string_items kind = id_items kind then octets_within (least kind) 16383

-- extension elements, where the flag says so: their count, then each
unfoldable pub elements_if : Bool → Kind → Items
elements_if false kind = stop
elements_if true kind = ask (length_within 0 255) (λ v. times (natural v) (string_items kind))

-- all strings of a section: the user data is one
unfoldable pub strings_items : Kind → Bool → Items
strings_items kind e = cond (is_content kind) (times 1 (string_items kind)) (elements_if e kind)

-- ── the sections ──

-- a section behind its opening, and then q
unfoldable pub behind : Kind → Bool → Items → Items
behind kind e q = field_items kind then (strings_items kind e then q)

-- an extensions flag, and what it calls for
unfoldable pub flagged : (Bool → Items) → Items
flagged k = ask (number (pos 0) 1) (λ v. k (eqb (natural v) 1))

-- an N-Header from its flag on: the flag stands before the version
unfoldable pub header : Kind → Items → Items
header kind q = flagged (λ e. ask (number (pos 0) 7) (λ v. behind kind e q))

unfoldable pub content : Items
content = behind UserData false stop

-- a T-Header by its feature selector: the 126 others are refused before anything is read behind them
unfoldable pub transport_by : ℕ → Items
transport_by zero = flagged (λ e. behind Dissemination e content)
transport_by (suc zero) = flagged (λ e. behind Session e content)
transport_by (suc (suc n)) = content

abbrev pub transport_branches : List Bool
transport_branches = true ∷ true ∷ replicate 126 false

unfoldable pub transport : Items
transport = ask (index transport_branches) (λ v. transport_by (natural v))

-- an original N-Header by its subtype
unfoldable pub original_by : ℕ → Items
original_by zero = header NullNetworking transport
original_by (suc zero) = transport
original_by (suc (suc zero)) = header NHopForwarding transport
original_by (suc (suc (suc n))) = transport

abbrev pub original_branches : List Bool
original_branches = true ∷ false ∷ true ∷ replicate 13 false

unfoldable pub original : Items
original = ask (index original_branches) (λ v. original_by (natural v))

-- the N-Header by its subtype
unfoldable pub network_by : ℕ → Items
network_by zero = header NullNetworking transport
network_by (suc zero) = header InternalForwarding original
network_by (suc (suc zero)) = header NHopForwarding transport
network_by (suc (suc (suc n))) = transport

abbrev pub network_branches : List Bool
network_branches = true ∷ true ∷ true ∷ replicate 13 false

unfoldable pub network : Items
network = ask (index network_branches) (λ v. network_by (natural v))

-- the message from a section on; an LM is that from its N-Header on
unfoldable pub asked : Section → Items
asked Network = network
asked Original = original
asked Transport = transport
asked Content = content
asked End = stop

-- from a section's fields on
unfoldable pub on : Kind → Bool → Items
on kind e = behind kind e (asked (following kind))
