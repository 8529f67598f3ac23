-- Outside first, then empty, then the sample.
use Rattle.std.proofs.Common.{◌+◌, ◌*◌, ◌<◌, ◌≤◌, sym, ap, ◌∙◌, subst, w32, SFits}
use Rattle.std.proofs.lemmas.Int.{to_z-of_z}
use Rattle.store.specs.Held.{seen}
use Rattle.machine.specs.Checks.{channels_of}
use Rattle.views.specs.View.{shown_by}
use Rattle.canvas.specs.Fields.{setup_from}
use Rattle.stage.specs.Stages.{setup_in, view_of}
use Rattle.stage.proofs.Shows.{no_position, no_channel, shows_empty, shows_sample}
use Rattle.stage.proofs.stage.Stage.show.Goals as goal

pub returns-in_default-place_of : goal.returns-in_default-place_of
returns-in_default-place_of g c =
    let stage = c.args.self.now in
    let b = (view_of g.S.Store.held stage).book in
    let h = g.S.Store.held stage.store in
    let fx : SFits w32 c.args.x = c.ranges.x in
    let fy : SFits w32 c.args.y = c.ranges.y in
    no_position (setup_from c.in-Some.terms) b h c.args.slot c.args.channel c.args.x c.args.y (simp to_z-of_z at c.in_default-place_of.ensures)
    ∙ sym (ap (λ o. shown_by (setup_in o) b h c.args.slot c.args.channel c.args.x c.args.y) c.in-Some.is)

pub returns-then-channel-channels : goal.returns-then-channel-channels
returns-then-channel-channels g c =
    let stage = c.args.self.now in
    let b = (view_of g.S.Store.held stage).book in
    let h = g.S.Store.held stage.store in
    let past : channels_of (setup_from c.in-Some.terms) ≤ c.args.channel = subst (λ n. n ≤ c.args.channel) c.channels-channels.ensures.sum c.if-channel-channels.true in
    no_channel (setup_from c.in-Some.terms) b h c.args.slot c.args.channel c.args.x c.args.y past
    ∙ sym (ap (λ o. shown_by (setup_in o) b h c.args.slot c.args.channel c.args.x c.args.y) c.in-Some.is)

pub returns-then-not-self-slot : goal.returns-then-not-self-slot
returns-then-not-self-slot g c =
    let stage = c.args.self.now in
    let s = setup_from c.in-Some.terms in
    let b = (view_of g.S.Store.held stage).book in
    let h = g.S.Store.held stage.store in
    let fx : SFits w32 c.args.x = c.ranges.x in
    let fy : SFits w32 c.args.y = c.ranges.y in
    let place = simp to_z-of_z at c.in-Some-place_of.ensures in
    let channel : c.args.channel < channels_of s = subst (λ n. c.args.channel < n) c.channels-channels.ensures.sum c.if-channel-channels.false in
    shows_empty s b h c.args.slot c.args.channel c.args.x c.args.y c.if-slot-ge4.false channel place.0 c.if-not-self-slot.true
    ∙ sym (ap (λ o. shown_by (setup_in o) b h c.args.slot c.args.channel c.args.x c.args.y) c.in-Some.is)

pub returns : goal.returns
returns g c =
    let stage = c.args.self.now in
    let s = setup_from c.in-Some.terms in
    let b = (view_of g.S.Store.held stage).book in
    let h = g.S.Store.held stage.store in
    let fx : SFits w32 c.args.x = c.ranges.x in
    let fy : SFits w32 c.args.y = c.ranges.y in
    let place = simp to_z-of_z at c.in-Some-place_of.ensures in
    let count = c.channels-channels.ensures.sum in
    let channel : c.args.channel < channels_of s = subst (λ n. c.args.channel < n) count c.if-channel-channels.false in
    shows_sample s b h c.args.slot c.args.channel c.args.x c.args.y c.if-slot-ge4.false channel place.0 c.get.result c.if-not-self-slot.false
    (c.get.ensures ∙ (λ i. seen h (c.args.slot * count i + c.args.channel) (place.1 i) (place.2 i)))
    ∙ sym (ap (λ o. shown_by (setup_in o) b h c.args.slot c.args.channel c.args.x c.args.y) c.in-Some.is)
