-- A classic capture file (document 02, ticket 6): its header of 24 octets, then records, each a header of 16 octets and the octets kept.
use Rattle.std.specs.Prelude.{ℕ, ◌+◌, ◌*◌, Bool, cond, ◌&&◌, ◌||◌, List, leb, ltb, eqb, length, get_or}
use Rattle.machine.specs.declared.Front.{Front}
use Rattle.machine.specs.declared.Front.TheVariants.{Whole, Part, Wrong}
use Rattle.pcap.specs.declared.Order.{Order}
use Rattle.pcap.specs.declared.Order.TheVariants.{Little, Big}
use Rattle.pcap.specs.declared.Record.{Record}
use Rattle.pcap.specs.declared.Record.TheVariants.{Cut, Lm, Other}

-- the octets of the file's header; of a record's; and of both headers before an LM, the record's and the 14 of Ethernet's
abbrev pub file_header : ℕ
file_header = 24

abbrev pub record_header : ℕ
record_header = 16

abbrev pub lm_headers : ℕ
lm_headers = 30

-- the number that four octets spell, the lowest first
abbrev pub spelled : ℕ → ℕ → ℕ → ℕ → ℕ
spelled a b c d = a + 256 * b + 65536 * c + 16777216 * d

-- four octets from o on, in an order
unfoldable pub word : Order → List ℕ → ℕ → ℕ
word Little s o = spelled (get_or s o 0) (get_or s (o + 1) 0) (get_or s (o + 2) 0) (get_or s (o + 3) 0)
word Big s o = spelled (get_or s (o + 3) 0) (get_or s (o + 2) 0) (get_or s (o + 1) 0) (get_or s o 0)

-- the mark of a file with microseconds, and link type 1, by an order. No other field of the file's header is looked at
abbrev pub headed : Order → List ℕ → Bool
headed order s = eqb (word order s 0) 0xa1b2c3d4 && eqb (word order s 20) 1

abbrev pub order_of : List ℕ → Order
order_of s = cond (headed Little s) Little Big

-- what the octets of a file begin with
abbrev pub file_front : List ℕ → Front
file_front s = cond (ltb (length s) file_header) Part (cond (headed Little s || headed Big s) (Whole file_header) Wrong)

-- the octets kept of a record, and how many it had
abbrev pub kept : Order → List ℕ → ℕ
kept order s = word order s 8

abbrev pub original : Order → List ℕ → ℕ
original order s = word order s 12

-- what octets begin with, from a record's header on: a header that isn't whole says nothing yet
abbrev pub record_front : Order → List ℕ → Front
record_front order s =
    cond (ltb (length s) record_header) Part
    (cond (ltb 2048 (kept order s)) Wrong
    (cond (ltb (length s) (record_header + kept order s)) Part
    (Whole (record_header + kept order s))))

-- a record with an LM: the last two octets of Ethernet's header, the EtherType, are 88 DC in every file
abbrev pub is_lm : List ℕ → Bool
is_lm s = leb lm_headers (length s) && (eqb (get_or s 28 0) 0x88 && eqb (get_or s 29 0) 0xdc)

-- what a whole record is for; one that was cut is nothing else, whatever it holds
abbrev pub record_of : Order → List ℕ → Record
record_of order s = cond (ltb (kept order s) (original order s)) Cut (cond (is_lm s) Lm Other)
