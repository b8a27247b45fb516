-- The built-in tables row by row (document 01, "LM, SAM and SRM"; document 02, ticket 2): each row with its offset. That the octets of
-- Tables.antt are these rows is stated in Built.antt. docs/MESSAGES.md has the ground of each.
use Rattle.std.specs.Prelude.{ℕ, List, [], ◌∷◌, pos, negsuc, replicate}
use Rattle.row.specs.Rows.{Row, Number, Variable, FixedRun, CountedRun, Record, Choice, Octets}

-- The localized message, LM. The root is at 546.
unfoldable pub lm_rows : List (ℕ × Row)
lm_rows =
    (0, Number (pos 0) 255)  -- octet
    ∷ (12, Number (pos 0) 65535)  -- two octets
    ∷ (24, Octets 1 16383)  -- element contents
    ∷ (30, Record (0 ∷ 24 ∷ []) (0 ∷ 0 ∷ []))  -- extension element
    ∷ (44, CountedRun 255 30)  -- extensions
    ∷ (52, Number (pos 0) 7)  -- version
    ∷ (64, Number (pos 0) 4194303)  -- message ID
    ∷ (76, Number (pos 0) 3)  -- hop count
    ∷ (88, FixedRun 8 0)  -- Link-ID
    ∷ (96, Record (52 ∷ 44 ∷ []) (0 ∷ 1 ∷ []))  -- N-Header branch 0
    ∷ (110, Record (52 ∷ 64 ∷ 76 ∷ 44 ∷ []) (0 ∷ 0 ∷ 0 ∷ 1 ∷ []))  -- N-Header branch 2
    ∷ (132, Choice (96 ∷ 65535 ∷ 110 ∷ replicate 13 65535))  -- original N-Header
    ∷ (170, Record (52 ∷ 0 ∷ 12 ∷ 88 ∷ 0 ∷ 44 ∷ 132 ∷ []) (0 ∷ 0 ∷ 0 ∷ 0 ∷ 0 ∷ 1 ∷ 0 ∷ []))  -- N-Header branch 1
    ∷ (204, Choice (96 ∷ 170 ∷ 110 ∷ replicate 13 65535))  -- N-Header
    ∷ (242, Variable)  -- destination address
    ∷ (246, Record (242 ∷ 44 ∷ []) (0 ∷ 1 ∷ []))  -- T-Header branch 0
    ∷ (260, Record (12 ∷ 12 ∷ 44 ∷ []) (0 ∷ 0 ∷ 1 ∷ []))  -- T-Header branch 1
    ∷ (278, Choice (246 ∷ 260 ∷ replicate 126 65535))  -- T-Header
    ∷ (540, Octets 0 16383)  -- user data
    ∷ (546, Record (204 ∷ 278 ∷ 540 ∷ []) (0 ∷ 0 ∷ 0 ∷ []))  -- LM
    ∷ []

-- The service advertisement message, SAM. The root is at 342.
unfoldable pub sam_rows : List (ℕ × Row)
sam_rows =
    (0, Number (pos 0) 255)  -- octet
    ∷ (12, Number (pos 0) 65535)  -- two octets
    ∷ (24, Octets 1 16383)  -- element contents
    ∷ (30, Record (0 ∷ 24 ∷ []) (0 ∷ 0 ∷ []))  -- extension element
    ∷ (44, CountedRun 255 30)  -- extensions
    ∷ (52, Number (pos 0) 15)  -- version, SAM-ID, SAM-Count
    ∷ (64, Record (52 ∷ 52 ∷ []) (0 ∷ 0 ∷ []))  -- change count
    ∷ (78, Variable)  -- ITS-AID
    ∷ (82, Number (pos 0) 31)  -- channel index
    ∷ (94, Octets 0 16383)  -- system service
    ∷ (100, Record (94 ∷ 12 ∷ 44 ∷ []) (1 ∷ 1 ∷ 1 ∷ []))  -- service options
    ∷ (118, Record (78 ∷ 82 ∷ 100 ∷ []) (0 ∷ 0 ∷ 0 ∷ []))  -- service info
    ∷ (136, CountedRun 31 118)  -- service infos
    ∷ (144, Number (negsuc 127) 255)  -- transmit power level
    ∷ (156, Number (pos 0) 1)  -- adaptable
    ∷ (168, Number (pos 0) 127)  -- data rate
    ∷ (180, Record (156 ∷ 168 ∷ []) (0 ∷ 0 ∷ []))  -- channel data rate
    ∷ (194, Number (pos 0) 0)  -- NULL
    ∷ (206, Record (194 ∷ 194 ∷ 194 ∷ 194 ∷ 194 ∷ 194 ∷ 194 ∷ 44 ∷ []) (1 ∷ 1 ∷ 1 ∷ 1 ∷ 1 ∷ 1 ∷ 1 ∷ 1 ∷ []))  -- channel options
    ∷ (244, Record (0 ∷ 0 ∷ 144 ∷ 180 ∷ 206 ∷ []) (0 ∷ 0 ∷ 0 ∷ 0 ∷ 0 ∷ []))  -- channel info
    ∷ (270, CountedRun 31 244)  -- channel infos
    ∷ (278, FixedRun 16 0)  -- IPv6 address or prefix
    ∷ (286, Record (12 ∷ 278 ∷ 0 ∷ 278 ∷ 278 ∷ 44 ∷ []) (0 ∷ 0 ∷ 0 ∷ 0 ∷ 0 ∷ 0 ∷ []))  -- routing advertisement
    ∷ (316, Record (64 ∷ 44 ∷ 136 ∷ 270 ∷ 286 ∷ []) (0 ∷ 1 ∷ 1 ∷ 1 ∷ 1 ∷ []))  -- SAM body
    ∷ (342, Record (52 ∷ 316 ∷ []) (0 ∷ 0 ∷ []))  -- SAM
    ∷ []

-- The service response message, SRM. The root is at 180.
unfoldable pub srm_rows : List (ℕ × Row)
srm_rows =
    (0, Number (pos 0) 255)  -- octet
    ∷ (12, Number (pos 0) 65535)  -- two octets
    ∷ (24, Octets 1 16383)  -- element contents
    ∷ (30, Record (0 ∷ 24 ∷ []) (0 ∷ 0 ∷ []))  -- extension element
    ∷ (44, CountedRun 255 30)  -- extensions
    ∷ (52, Number (pos 0) 15)  -- version
    ∷ (64, Variable)  -- ITS-AID
    ∷ (68, CountedRun 16383 64)  -- ITS-AIDs
    ∷ (76, Record (12 ∷ 68 ∷ []) (0 ∷ 0 ∷ []))  -- private channel request
    ∷ (90, Octets 1 16383)  -- context data
    ∷ (96, Record (64 ∷ 0 ∷ []) (0 ∷ 0 ∷ []))  -- context reference
    ∷ (110, Record (96 ∷ 90 ∷ 12 ∷ []) (0 ∷ 0 ∷ 0 ∷ []))  -- context set
    ∷ (128, CountedRun 16383 110)  -- context information
    ∷ (136, Record (64 ∷ 12 ∷ []) (0 ∷ 0 ∷ []))  -- allocated channel
    ∷ (150, CountedRun 16383 136)  -- private channel confirm
    ∷ (158, Record (44 ∷ 76 ∷ 128 ∷ 150 ∷ []) (1 ∷ 1 ∷ 1 ∷ 1 ∷ []))  -- SRM body
    ∷ (180, Record (52 ∷ 158 ∷ []) (0 ∷ 0 ∷ []))  -- SRM
    ∷ []
