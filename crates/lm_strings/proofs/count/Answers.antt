-- `lm_strings::count` meets its contract. One for user data, none where the flag is not set, else what the length says.
-- Assumes nothing.
use mathlib.Core.Bool.{Bool, true, false}
use mathlib.Core.Path.{◌≡◌, refl, sym, ap, ◌∙◌}
use borrow.Author.Rules.{rules}
use Rattle.answer.proofs.Exits.{exit}
use Rattle.item.specs.Code.{length_within, natural}
use Rattle.items.specs.Items.{Items, ◌then◌, ask, times}
use Rattle.read_steps.specs.Reads.{state_at}
use Rattle.read_steps.proofs.Flow.{continues_same}
use Rattle.read_steps.proofs.Keeping.{Keeping, keeping-value, count-held, item-refused, first_refused, first-kept, reads_one}
use Rattle.whole.proofs.Aligned.{aligned_after, whole_one, length-octets}
use Rattle.lm_items.specs.Asked.{is_content, elements_if, string_items, strings_items}
use Rattle.lm_items.specs.declared.Kind.{Kind}
use Rattle.lm_strings.proofs.count.Goals as goal

content-is : (kind : Kind) (e : Bool) → is_content kind ≡ true → strings_items kind e ≡ times 1 (string_items kind)
unfolding strings_items
content-is kind e h = rw h

-- the strings of a section that is not the user data
elements-are : (kind : Kind) {e f : Bool} → is_content kind ≡ false → e ≡ f → strings_items kind e ≡ elements_if f kind
unfolding strings_items
elements-are kind h flag = rw (h, flag)

-- and the strings that are counted
counted-items : (kind : Kind) {e : Bool} → is_content kind ≡ false → e ≡ true → (q : Items)
    → strings_items kind e then q ≡ ask (length_within 0 255) (λ v. times (natural v) (string_items kind) then q)
unfolding elements_if
counted-items kind h flag q = ap (◌then q) (elements-are kind h flag)

pub returns-then-is_content : goal.returns-then-is_content
returns-then-is_content c =
    let a = c.args in
    let content = sym c.is_content.ensures ∙ c.if-is_content.true in
    (λ q. continues_same (ap (◌then q) (content-is a.kind a.extended content)), c.requires.1)

pub returns-then-not-extended : goal.returns-then-not-extended
unfolding elements_if times
returns-then-not-extended c =
    let element = sym c.is_content.ensures ∙ c.if-is_content.false in
    (λ q. continues_same (ap (◌then q) (elements-are c.args.kind element c.if-not-extended.true)), c.requires.1)

pub returns-in_err-length : goal.returns-in_err-length
returns-in_err-length c =
    let element = sym c.is_content.ensures ∙ c.if-is_content.false in
    rw (exit _ c.from_residual.ensures.1)
    (λ q. item-refused _ _ (counted-items c.args.kind element c.if-not-extended.false q) (length_within 0 255) refl c.length.ensures c.in_err-length.was)

pub returns-in_err-next : goal.returns-in_err-next
returns-in_err-next c =
    let element = sym c.is_content.ensures ∙ c.if-is_content.false in
    let count-kept = keeping-value (length_within 0 255) refl (search rules) c.length.ensures c.in_ok-length.was c.keep.ensures in
    rw (exit _ c.from_residual-in_err-next.ensures.1) (λ q. first_refused _ _ (counted-items c.args.kind element c.if-not-extended.false q) count-kept c.in_err-next.was)

pub returns : goal.returns
returns c =
    let a = c.args in
    let element = sym c.is_content.ensures ∙ c.if-is_content.false in
    let count-kept : Keeping (length_within 0 255) a.message.now a.room (state_at a.cursor a.values.now a.packed.now) _ _ _ _ = keeping-value _ refl (search rules) c.length.ensures c.in_ok-length.was c.keep.ensures in
    rw (count-held c.in_ok-length.length (search rules) c.count_of.ensures) (
      λ q. first-kept _ _ (counted-items a.kind element c.if-not-extended.false q) count-kept c.in_ok-next.was,
      aligned_after (whole_one _ (length-octets 0 255)) c.requires.1 (reads_one c.keep.result count-kept) c.in_ok-next.was,
    )
