mod SenderFields
mod LogFields
mod Described
mod Builders
mod Extractors
mod Pieces
