-- By the kind.
use Rattle.text.specs.Ascii.{bytes}
use Rattle.message.specs.Bytes.{group, partner, digits, opening, ending, closing}
use Rattle.message.specs.Reading.{partner_parse, own_partner_parse}
use Rattle.reader.specs.PartnersInner.{company_parse}
use Rattle.reader.proofs.partners.partner.Goals as goal

pub returns-in-Toe01-clause-filled : goal.returns-in-Toe01-clause-filled
unfolding partner_parse own_partner_parse company_parse group partner digits opening ending closing bytes
returns-in-Toe01-clause-filled c = rw c.in-Toe01.is c.company.ensures.filled

pub returns-in-Toe02-clause-filled : goal.returns-in-Toe02-clause-filled
unfolding partner_parse own_partner_parse company_parse group partner digits opening ending closing bytes
returns-in-Toe02-clause-filled c = rw c.in-Toe02.is c.company-in-Toe02.ensures.filled
