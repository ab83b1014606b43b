mod Outcomes
mod Replies
mod Calls
mod Listings
mod Filled
