-- The layout of an LM by the figures of ISO 16460:2021, clause 5, field by field, and document 01's ranges and values for it, with
-- document 02's least length of an element's data (ticket 2).
-- It knows nothing of any table: to be believed, this file is held against the figures. specs/Demand2.antt says that the
-- built-in table of LM is this layout.
-- The one-octet length goes up to 0x7F: the standard's 0xEF is a slip (document 01). Transport feature 2, the LPP header, is
-- left out (document 01). The TPID's feature selector, which the figures draw at the end of the N-Header, stands here at the
-- beginning of the T-Header, as in the annex: the bits are the same, and an original N-Header has none.
use Rattle.std.specs.Prelude.{ℕ, ◌-◌, ◌≤◌, Bool, true, false, cond, ◌≡◌, List, [], ◌∷◌, ◌++◌, map, leb, ltb, ℤ, pos, length}
use Rattle.bits.specs.Bits.{bits_of, unpack}

-- ── what an LM holds ──

-- an extension element (clause 7): its ID, and the octets of its extension data, one or more
pub record Element : Type 0 where
  pub id : ℕ
  pub contents : List ℕ

-- the N-Extensions or T-Extensions field
pub data Extensions : Type 0 where
  absent : Extensions
  present : List Element → Extensions

-- networking feature 0 (5.4.2): null networking
pub record NullNetworking : Type 0 where
  pub version : ℕ
  pub extensions : Extensions

-- networking feature 2 (5.4.4): N-hop forwarding
pub record NHopForwarding : Type 0 where
  pub version : ℕ
  pub message_id : ℕ
  pub hop_count : ℕ
  pub extensions : Extensions

-- an original N-Header (5.4.3): subtype 0 or 2
pub data OriginalHeader : Type 0 where
  original_null : NullNetworking → OriginalHeader
  original_nhop : NHopForwarding → OriginalHeader

-- networking feature 1 (5.4.3): forwarding inside an ITS station
pub record InternalForwarding : Type 0 where
  pub version : ℕ
  pub direction : ℕ
  pub scu_id : ℕ
  pub link_id : List ℕ
  pub counter : ℕ
  pub extensions : Extensions
  pub original : OriginalHeader

-- the N-Header: subtype 0, 1 or 2 (Table 1)
pub data NHeader : Type 0 where
  null_networking : NullNetworking → NHeader
  internal_forwarding : InternalForwarding → NHeader
  n_hop_forwarding : NHopForwarding → NHeader

-- transport feature 0 (5.5.1): information dissemination
pub record Dissemination : Type 0 where
  pub destination : ℕ
  pub extensions : Extensions

-- transport feature 1 (5.5.2): general session mode
pub record Session : Type 0 where
  pub source : ℕ
  pub destination : ℕ
  pub extensions : Extensions

-- the T-Header: feature selector 0 or 1 (Table 3)
pub data THeader : Type 0 where
  dissemination : Dissemination → THeader
  session : Session → THeader

-- an LM (Figure 1)
pub record Lm : Type 0 where
  pub network : NHeader
  pub transport : THeader
  pub user_data : List ℕ

-- ── its bits: a line for each field of a figure; bits_of k n is the number n in k bits, unpack os are octets ──

-- one after another
abbrev pub in_order : {A : Type 0} → List (List A) → List A
in_order [] = []
in_order (x ∷ xs) = x ++ in_order xs

-- a length or a count (5.3 and clause 7): one octet 0x00 to 0x7F, or two 0x8080 to 0xBFFF
unfoldable pub length_bits : ℕ → List Bool
length_bits n = cond (leb n 0x7f) (false ∷ bits_of 7 n) (true ∷ false ∷ bits_of 14 n)

-- a destination address: an ITS-AID (ISO 17419), one to four octets
unfoldable pub address_bits : ℕ → List Bool
address_bits n =
    cond (ltb n 128) (false ∷ bits_of 7 n)
    (cond (ltb n 16512) (true ∷ false ∷ bits_of 14 (n - 128))
    (cond (ltb n 2113664) (true ∷ true ∷ false ∷ bits_of 21 (n - 16512))
    (true ∷ true ∷ true ∷ false ∷ bits_of 28 (n - 2113664))))

-- the extensions flag
abbrev pub flag : Extensions → Bool
flag absent = false
flag (present es) = true

-- an extension element
abbrev pub element_bits : Element → List Bool
element_bits e =
    in_order
    (bits_of 8 e.id  -- element ID
    ∷ length_bits (length e.contents)  -- length
    ∷ unpack e.contents  -- extension data
    ∷ [])

-- the extensions, where there are any: their count, and they
abbrev pub extensions_bits : Extensions → List Bool
extensions_bits absent = []
extensions_bits (present es) = length_bits (length es) ++ in_order (map element_bits es)

-- Figures 2 and 3
abbrev pub null_networking_bits : NullNetworking → List Bool
null_networking_bits h =
    in_order
    (bits_of 4 0  -- subtype
    ∷ (flag h.extensions ∷ [])  -- N-Extensions flag
    ∷ bits_of 3 h.version  -- version
    ∷ extensions_bits h.extensions  -- N-Extensions
    ∷ [])

-- Figures 6 and 7
abbrev pub n_hop_forwarding_bits : NHopForwarding → List Bool
n_hop_forwarding_bits h =
    in_order
    (bits_of 4 2  -- subtype
    ∷ (flag h.extensions ∷ [])  -- N-Extensions flag
    ∷ bits_of 3 h.version  -- version
    ∷ bits_of 22 h.message_id  -- message ID
    ∷ bits_of 2 h.hop_count  -- hop count
    ∷ extensions_bits h.extensions  -- N-Extensions
    ∷ [])

abbrev pub original_header_bits : OriginalHeader → List Bool
original_header_bits (original_null h) = null_networking_bits h
original_header_bits (original_nhop h) = n_hop_forwarding_bits h

-- Figures 4 and 5
abbrev pub internal_forwarding_bits : InternalForwarding → List Bool
internal_forwarding_bits h =
    in_order
    (bits_of 4 1  -- subtype
    ∷ (flag h.extensions ∷ [])  -- N-Extensions flag
    ∷ bits_of 3 h.version  -- version
    ∷ bits_of 8 h.direction  -- direction
    ∷ bits_of 16 h.scu_id  -- ITS-SCU-ID
    ∷ unpack h.link_id  -- Link-ID
    ∷ bits_of 8 h.counter  -- counter
    ∷ extensions_bits h.extensions  -- N-Extensions
    ∷ original_header_bits h.original  -- original N-Header
    ∷ [])

abbrev pub n_header_bits : NHeader → List Bool
n_header_bits (null_networking h) = null_networking_bits h
n_header_bits (internal_forwarding h) = internal_forwarding_bits h
n_header_bits (n_hop_forwarding h) = n_hop_forwarding_bits h

-- Figures 8 and 9
abbrev pub dissemination_bits : Dissemination → List Bool
dissemination_bits h =
    in_order
    (bits_of 7 0  -- TPID, feature selector
    ∷ (flag h.extensions ∷ [])  -- TPID, T-Extensions flag
    ∷ address_bits h.destination  -- destination address
    ∷ extensions_bits h.extensions  -- T-Extensions
    ∷ [])

-- Figures 10 and 11
abbrev pub session_bits : Session → List Bool
session_bits h =
    in_order
    (bits_of 7 1  -- TPID, feature selector
    ∷ (flag h.extensions ∷ [])  -- TPID, T-Extensions flag
    ∷ bits_of 16 h.source  -- source address
    ∷ bits_of 16 h.destination  -- destination address
    ∷ extensions_bits h.extensions  -- T-Extensions
    ∷ [])

abbrev pub t_header_bits : THeader → List Bool
t_header_bits (dissemination h) = dissemination_bits h
t_header_bits (session h) = session_bits h

-- Figure 1
unfoldable pub layout_bits : Lm → List Bool
layout_bits l =
    in_order
    (n_header_bits l.network  -- N-Header
    ∷ t_header_bits l.transport  -- T-Header
    ∷ length_bits (length l.user_data)  -- length of user data
    ∷ unpack l.user_data  -- user data
    ∷ [])

-- ── its values, in document 01's order: an index, presence bits, then the fields ──

abbrev pub flag_value : Extensions → ℤ
flag_value absent = pos 0
flag_value (present es) = pos 1

abbrev pub octets_values : List ℕ → List ℤ
octets_values os = pos (length os) ∷ map pos os

abbrev pub element_values : Element → List ℤ
element_values e = pos e.id ∷ octets_values e.contents

abbrev pub extensions_values : Extensions → List ℤ
extensions_values absent = []
extensions_values (present es) = pos (length es) ∷ in_order (map element_values es)

abbrev pub null_networking_values : NullNetworking → List ℤ
null_networking_values h = pos 0 ∷ flag_value h.extensions ∷ pos h.version ∷ extensions_values h.extensions

abbrev pub n_hop_forwarding_values : NHopForwarding → List ℤ
n_hop_forwarding_values h =
    pos 2 ∷ flag_value h.extensions ∷ pos h.version ∷ pos h.message_id ∷ pos h.hop_count ∷ extensions_values h.extensions

abbrev pub original_header_values : OriginalHeader → List ℤ
original_header_values (original_null h) = null_networking_values h
original_header_values (original_nhop h) = n_hop_forwarding_values h

abbrev pub internal_forwarding_values : InternalForwarding → List ℤ
internal_forwarding_values h =
    pos 1 ∷ flag_value h.extensions ∷ pos h.version ∷ pos h.direction ∷ pos h.scu_id
    ∷ map pos h.link_id ++ (pos h.counter ∷ extensions_values h.extensions ++ original_header_values h.original)

abbrev pub n_header_values : NHeader → List ℤ
n_header_values (null_networking h) = null_networking_values h
n_header_values (internal_forwarding h) = internal_forwarding_values h
n_header_values (n_hop_forwarding h) = n_hop_forwarding_values h

abbrev pub dissemination_values : Dissemination → List ℤ
dissemination_values h = pos 0 ∷ flag_value h.extensions ∷ pos h.destination ∷ extensions_values h.extensions

abbrev pub session_values : Session → List ℤ
session_values h = pos 1 ∷ flag_value h.extensions ∷ pos h.source ∷ pos h.destination ∷ extensions_values h.extensions

abbrev pub t_header_values : THeader → List ℤ
t_header_values (dissemination h) = dissemination_values h
t_header_values (session h) = session_values h

unfoldable pub values_of : Lm → List ℤ
values_of l = n_header_values l.network ++ (t_header_values l.transport ++ octets_values l.user_data)

-- ── the ranges ──

-- every element of a list is as P says
abbrev pub Each : {A : Type 0} → (A → Type 0) → List A → Type 0
Each P [] = Unit {0}
Each P (x ∷ xs) = P x × Each P xs

abbrev pub Octets : List ℕ → Type 0
Octets os = Each (λ o. o ≤ 255) os

pub record ElementWithin (e : Element) : Type 0 where
  pub id : e.id ≤ 255
  pub contents : Octets e.contents
  pub least : 1 ≤ length e.contents
  pub most : length e.contents ≤ 16383

abbrev pub ExtensionsWithin : Extensions → Type 0
ExtensionsWithin absent = Unit {0}
ExtensionsWithin (present es) = Each ElementWithin es × (length es ≤ 255)

pub record NullNetworkingWithin (h : NullNetworking) : Type 0 where
  pub version : h.version ≤ 7
  pub extensions : ExtensionsWithin h.extensions

pub record NHopForwardingWithin (h : NHopForwarding) : Type 0 where
  pub version : h.version ≤ 7
  pub message_id : h.message_id ≤ 4194303
  pub hop_count : h.hop_count ≤ 3
  pub extensions : ExtensionsWithin h.extensions

abbrev pub OriginalHeaderWithin : OriginalHeader → Type 0
OriginalHeaderWithin (original_null h) = NullNetworkingWithin h
OriginalHeaderWithin (original_nhop h) = NHopForwardingWithin h

pub record InternalForwardingWithin (h : InternalForwarding) : Type 0 where
  pub version : h.version ≤ 7
  pub direction : h.direction ≤ 255
  pub scu_id : h.scu_id ≤ 65535
  pub link_id : Octets h.link_id
  pub eight : length h.link_id ≡ 8
  pub counter : h.counter ≤ 255
  pub extensions : ExtensionsWithin h.extensions
  pub original : OriginalHeaderWithin h.original

abbrev pub NHeaderWithin : NHeader → Type 0
NHeaderWithin (null_networking h) = NullNetworkingWithin h
NHeaderWithin (internal_forwarding h) = InternalForwardingWithin h
NHeaderWithin (n_hop_forwarding h) = NHopForwardingWithin h

pub record DisseminationWithin (h : Dissemination) : Type 0 where
  pub destination : h.destination ≤ 270549119
  pub extensions : ExtensionsWithin h.extensions

pub record SessionWithin (h : Session) : Type 0 where
  pub source : h.source ≤ 65535
  pub destination : h.destination ≤ 65535
  pub extensions : ExtensionsWithin h.extensions

abbrev pub THeaderWithin : THeader → Type 0
THeaderWithin (dissemination h) = DisseminationWithin h
THeaderWithin (session h) = SessionWithin h

-- an LM whose fields are within their ranges; its version, 0 to 7, is looked at apart
pub record WellFormed (l : Lm) : Type 0 where
  pub network : NHeaderWithin l.network
  pub transport : THeaderWithin l.transport
  pub user_data : Octets l.user_data
  pub most : length l.user_data ≤ 16383

abbrev pub n_header_version : NHeader → ℕ
n_header_version (null_networking h) = h.version
n_header_version (internal_forwarding h) = h.version
n_header_version (n_hop_forwarding h) = h.version

-- the version of an LM; that of an original N-Header is not looked at
abbrev pub version_of : Lm → ℕ
version_of l = n_header_version l.network
